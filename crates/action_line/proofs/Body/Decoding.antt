-- The body of a tree is accepted as an action table, and its last entry is the tree's formula.
use Prim.Native.Nat.{ℕ, ◌+◌, ◌-◌, ◌<◌, ◌≤◌}
use mathlib.Core.Path.{◌≡◌, refl, sym, ap, ap₂, subst, ◌∙◌}
use mathlib.Core.List.{List, [], append-nil}
use mathlib.Core.Logic.{◌⊎◌, inl, inr}
use native.Mathlib.Omega.{arith}
use Rattle.sheet.specs.Actions.{entry_count, entry_kind, entry_x, entry_y}
use Rattle.sheet.specs.WellFormed.{WellFormedEntry, WellFormedActions}
use Rattle.calculus.specs.Formulas.{ActionFormula, one_action, or_action, and_action, not_action}
use Rattle.calculus.specs.Decode.{action_formula}
use Rattle.calculus.specs.DecodedKinds.{EntryDecoded}
use Rattle.calculus.specs.Meaning.{meets}
use Rattle.calculus.proofs.Decoding.Entries.{entries_decoded}
use Rattle.calculus.proofs.Trees.Nodes.{Span, span_one, span_both}
use Rattle.action_line.specs.Grammar.{Tree, false_tree, true_tree, action_tree, or_tree, and_tree, not_tree, formula_of, Mentions}
use Rattle.action_line.specs.Entries.{entry_total, entries_from, body_of}
use Rattle.action_line.specs.ParseCorrect.{KnownActions, MeansTree}
use Rattle.action_line.proofs.Body.Bytes.{total_some, pair_from, entries_length, body_length, BytesAt}
use Rattle.action_line.proofs.Body.Bytes.{first_part, next_part, entry_at}

module _ (A : ℕ) (a : List ℕ) where
  -- so many entries from e on are well formed, and the last of them, once the whole table is, decodes to the formula
  record Decodes (e total : ℕ) (α : ActionFormula) : Type 0 where
    kept : Span (WellFormedEntry A a) e (e + total)
    last_decoded : WellFormedActions A a → e + total ≤ entry_count a → action_formula a (e + total - 1) ≡ α

  -- entry i, after those from e up to i
  with_last : {e total i : ℕ} {α : ActionFormula} → i + 1 ≡ e + total → Span (WellFormedEntry A a) e i → WellFormedEntry A a i
      → (WellFormedActions A a → i < entry_count a → action_formula a i ≡ α) → Decodes e total α
  with_last {e} {total} {i} q before last decoded =
      record {
        kept = subst (Span (WellFormedEntry A a) e) (omega arith) (span_both before (span_one last));
        last_decoded = λ f l. ap (action_formula a) (omega arith) ∙ decoded f (omega arith);
      }

  single_decodes : {e : ℕ} {α : ActionFormula} → WellFormedEntry A a e → (EntryDecoded a e → action_formula a e ≡ α) → Decodes e 1 α
  single_decodes {e} last decoded =
      with_last refl (record { at = λ i l u. absurd (omega arith) }) last (λ f l. decoded (entries_decoded A a f e l))

  -- the entries of t, wherever they stand in the body
  abbrev TreeDecodes : Tree → Type 0
  TreeDecodes t =
      (e : ℕ) → ((n : ℕ) → Mentions t n → n < A) → BytesAt a e (entries_from e t) → Decodes e (entry_total t) (formula_of t)

  -- `or` and `and`, by the kind of their entry
  pair_decodes : {kind : ℕ} (combine : ActionFormula → ActionFormula → ActionFormula) → (kind ≡ 3) ⊎ (kind ≡ 4)
      → ((i : ℕ) → EntryDecoded a i → entry_kind a i ≡ kind
      → action_formula a i ≡ combine (action_formula a (entry_x a i)) (action_formula a (entry_y a i)))
      → (t u : Tree) → TreeDecodes t → TreeDecodes u → (e : ℕ) → ((n : ℕ) → Mentions t n ⊎ Mentions u n → n < A)
      → BytesAt a e (pair_from kind e t u) → Decodes e (entry_total t + entry_total u + 1) (combine (formula_of t) (formula_of u))
  pair_decodes combine binary decoded t u left right e known b =
      let m = e + entry_total t in
      let after = next_part (entry_total t) (entries_from e t) _ (entries_length e t) b in
      let h = entry_at (next_part (entry_total u) (entries_from m u) _ (entries_length m u) after) in
      let l = left e (λ n i. known n (inl i)) (first_part (entries_from e t) _ b) in
      let r = right m (λ n i. known n (inr i)) (first_part (entries_from m u) _ after) in
      let some-t = total_some t in
      let some-u = total_some u in
      with_last (omega arith) (span_both l.kept r.kept)
      (WellFormedEntry.operands (rw h.kind_is binary) (omega arith) (omega arith))
      (λ f i. decoded (m + entry_total u) (entries_decoded A a f (m + entry_total u) i) h.kind_is
      ∙ ap₂ combine (ap (action_formula a) h.x_is ∙ l.last_decoded f (omega arith))
      (ap (action_formula a) h.y_is ∙ r.last_decoded f (omega arith)))

  tree_decodes : (t : Tree) → TreeDecodes t
  unfolding entries_from entry_total formula_of Mentions
  tree_decodes false_tree e known b =
      let h = entry_at b in
      single_decodes (WellFormedEntry.constant (omega arith) h.x_is h.y_is) (λ d. d.false_entry_holds h.kind_is)
  tree_decodes true_tree e known b =
      let h = entry_at b in
      single_decodes (WellFormedEntry.constant (omega arith) h.x_is h.y_is) (λ d. d.true_entry_holds h.kind_is)
  tree_decodes (action_tree n) e known b =
      let h = entry_at b in
      single_decodes (WellFormedEntry.action h.kind_is (omega (arith, known n refl)) h.y_is)
      (λ d. d.action_entry_holds h.kind_is ∙ ap one_action h.x_is)
  tree_decodes (or_tree t u) e known b =
      pair_decodes or_action (inl refl) (λ i d. d.or_entry_holds) t u (tree_decodes t) (tree_decodes u) e known b
  tree_decodes (and_tree t u) e known b =
      pair_decodes and_action (inr refl) (λ i d. d.and_entry_holds) t u (tree_decodes t) (tree_decodes u) e known b
  tree_decodes (not_tree t) e known b =
      let h = entry_at (next_part (entry_total t) (entries_from e t) _ (entries_length e t) b) in
      let l = tree_decodes t e known (first_part (entries_from e t) _ b) in
      let some-t = total_some t in
      with_last (omega arith) l.kept (WellFormedEntry.operand h.kind_is (omega arith) h.y_is)
      (λ f i. (entries_decoded A a f (e + entry_total t) i).not_entry_holds h.kind_is
      ∙ ap not_action (ap (action_formula a) h.x_is ∙ l.last_decoded f (omega arith)))

pub means_tree : (A : ℕ) (t : Tree) → KnownActions A t → entry_total t ≤ 32 → MeansTree A t (body_of t)
unfolding body_of
means_tree A t known few =
    let b : BytesAt (body_of t) 0 (entries_from 0 t) = record { behind = []; begins = sym (append-nil (entries_from 0 t)) } in
    let s = tree_decodes A (body_of t) t 0 known.below b in
    let accepted : WellFormedActions A (body_of t) =
    record {
      headed = omega arith;
      few = few;
      exact = body_length t;
      entries_kept = λ i l. s.kept.at i (omega arith) (omega arith);
    } in
    let last_is : action_formula (body_of t) (entry_total t - 1) ≡ formula_of t =
    ap (action_formula (body_of t)) (omega arith) ∙ s.last_decoded accepted (omega arith) in
    record {
      accepted = accepted;
      count_is = refl;
      last_is = last_is;
      last_met = λ action l. ap (λ (α : ActionFormula). meets A α action) last_is;
    }
