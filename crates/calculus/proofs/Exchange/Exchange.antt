-- Exchanging fixed points, as a change of kinds: the exchanged sheet of a kept sheet is kept, has the same plan and action formulas, and its rule
-- differs only in which of the chosen binders are least and which greatest. Of the bytes of an accepted sheet the kinds of these binders alone change.
use Prim.Native.Nat.{ℕ, ◌+◌, ◌<◌}
use mathlib.Core.Path.{◌≡◌, refl, sym, ap, subst, ◌∙◌}
use mathlib.Core.Bool.{Bool, true, false}
use mathlib.Core.List.{List}
use mathlib.Core.Logic.{inl, inr}
use native.Mathlib.Omega.{arith}
use native.Mathlib.Decide.{ℕ_discrete}
use lib.ListN.{length}
use borrow.Author.Tests.{ne_eqb}
use Rattle.sheet.specs.Bytes.{byte, pick}
use Rattle.sheet.specs.Contents.{rule_length, rule_offset, plan_body, actions_body, rule_body}
use Rattle.sheet.specs.Rule.{node_count, shape_of}
use Rattle.sheet.specs.Reading.{sheet_check}
use Rattle.sheet.specs.WellFormed.{WellFormedRule, WellFormedSheet}
use Rattle.std.specs.Prelude.{Ok}
use Rattle.sheet.proofs.Acceptance.Sheet.{rule_length_lem}
use Rattle.sheet.proofs.Acceptance.Parts.{sheet_kept, rule_kept, rule_inside}
use Rattle.calculus.specs.Exchange.{other_kind, exchanged_kind, exchanged_rule, exchanged}
use Rattle.calculus.specs.Exchange.{kind_place, ChosenBinder, FixedPointsExchanged, ExchangeOfBytes}
use Rattle.calculus.proofs.Exchange.KindMap.{mapped_count, mapped_x, mapped_y, mapped_kinds, mapped_length, mapped_kind_byte, mapped_same}
use Rattle.calculus.proofs.Exchange.KindMap.{mapped_plan, mapped_actions, mapped_rule}
use Rattle.calculus.proofs.Exchange.SameShapes.{mapped_rule_kept, mapped_kept}
use Rattle.calculus.proofs.Exchange.Alike.{Fixpoint, AlikeKinds, Alike, alike_kinds_shape}

other_alike : (k : ℕ) → AlikeKinds k (other_kind k)
other_alike k =
    elim (ℕ_discrete k 7) [
      | yes q ↦ inr (inl q, inr (ap other_kind q))
      | no q ↦ elim (ℕ_discrete k 8) [ yes p ↦ inr (inr p, inl (ap other_kind p)) | no p ↦ inl (simp (ne_eqb k 7 q, ne_eqb k 8 p)) ]
    ]

-- of kinds, those of fixed points alone are changed
other_same : (k : ℕ) → (Fixpoint k → ⊥) → other_kind k ≡ k
other_same k h = go (other_alike k)
  where
    go : AlikeKinds k (other_kind k) → other_kind k ≡ k
    go (inl q) = q
    go (inr f) = absurd (h f.0)

chosen_alike : (b : Bool) (k : ℕ) → AlikeKinds k (pick b (other_kind k) k)
chosen_alike true k = other_alike k
chosen_alike false k = inl refl

module _ (choice : ℕ → Bool) where
  keeps : (n k : ℕ) → shape_of (exchanged_kind choice n k) ≡ shape_of k
  keeps n k = alike_kinds_shape k (exchanged_kind choice n k) (chosen_alike (choice n) k)

  pub exchanged_alike : (r : List ℕ) → Alike r (exchanged_rule choice r)
  exchanged_alike r = record {
    count = mapped_count (exchanged_kind choice) r;
    xs = mapped_x (exchanged_kind choice) r;
    ys = mapped_y (exchanged_kind choice) r;
    kinds = mapped_kinds (exchanged_kind choice) r AlikeKinds (λ k. inl refl) (λ n k. chosen_alike (choice n) k);
  }

  pub exchanged_rule_kept : (r : List ℕ) {entries : ℕ} → WellFormedRule entries r → WellFormedRule entries (exchanged_rule choice r)
  exchanged_rule_kept = mapped_rule_kept (exchanged_kind choice) keeps

  module _ (s : List ℕ) (ends : length s ≡ rule_offset s + rule_length s) where
    pub exchanged_plan : plan_body (exchanged choice s) ≡ plan_body s
    unfolding exchanged
    exchanged_plan = mapped_plan (exchanged_kind choice) s ends

    pub exchanged_actions : actions_body (exchanged choice s) ≡ actions_body s
    unfolding exchanged
    exchanged_actions = mapped_actions (exchanged_kind choice) s ends

    pub exchanged_rule_lem : rule_body (exchanged choice s) ≡ exchanged_rule choice (rule_body s)
    unfolding exchanged
    exchanged_rule_lem = mapped_rule (exchanged_kind choice) s ends

  pub exchanged_kept : {s : List ℕ} → WellFormedSheet s → WellFormedSheet (exchanged choice s)
  unfolding exchanged
  exchanged_kept kept = mapped_kept (exchanged_kind choice) keeps kept

-- ---- the bytes of an accepted sheet

module _ (choice : ℕ → Bool) (s : List ℕ) (accepted : sheet_check s ≡ Ok tt) where
  ends : length s ≡ rule_offset s + rule_length s
  ends = (sheet_kept s accepted).ends

  among : (n : ℕ) → kind_place s n < length s → n < node_count (rule_body s)
  among n l = omega (arith, rule_length_lem s ends, (rule_kept s accepted).exact, ends)

  -- the kind of a chosen binder
  chosen_kind : (n : ℕ) → ChosenBinder choice s n → byte (exchanged choice s) (kind_place s n) ≡ other_kind (byte s (kind_place s n))
  unfolding exchanged
  chosen_kind n b =
      mapped_kind_byte (exchanged_kind choice) s ends n (rule_inside s accepted n 1 b.among (omega arith)) ∙
      ap (λ (c : Bool). pick c (other_kind (byte s (kind_place s n))) (byte s (kind_place s n))) b.chosen

  -- a kind that is not one of a chosen binder
  other_kind_lem : (n : ℕ) → n < node_count (rule_body s) → (ChosenBinder choice s n → ⊥) → exchanged_kind choice n (byte s (kind_place s n)) ≡ byte s (kind_place s n)
  other_kind_lem n l h = go (choice n) refl
    where
      go : (c : Bool) → choice n ≡ c → pick c (other_kind (byte s (kind_place s n))) (byte s (kind_place s n)) ≡ byte s (kind_place s n)
      go true q = other_same (byte s (kind_place s n)) (λ f. h (record { among = l; binder = f; chosen = q }))
      go false q = refl

  exchanged_bytes : FixedPointsExchanged choice s (exchanged choice s)
  unfolding exchanged
  exchanged_bytes = record {
    same_length = mapped_length (exchanged_kind choice) s ends;
    least = λ n b q. chosen_kind n b ∙ ap other_kind q;
    greatest = λ n b q. chosen_kind n b ∙ ap other_kind q;
    others = λ i h. mapped_same (exchanged_kind choice) s ends i (λ n q l.
        let e : exchanged_kind choice n (byte s (kind_place s n)) ≡ byte s (kind_place s n) = other_kind_lem n (among n (omega arith)) (λ b. h n b q) in
        subst (λ (j : ℕ). exchanged_kind choice n (byte s j) ≡ byte s j) (sym q) e);
  }

pub exchange_of_bytes : ExchangeOfBytes
exchange_of_bytes = exchanged_bytes
