-- The steps of noting second parts.
use Prim.Native.Nat.{ℕ, ◌+◌, ◌<◌, ◌≤◌}
use mathlib.Core.Path.{◌≡◌, refl, sym, ◌∙◌, subst}
use mathlib.Core.List.{List}
use mathlib.Core.Logic.{◌⊎◌, inl, inr, ⊎_elim}
use native.Mathlib.Omega.{arith}
use lib.ListN.{length, set, length-set}
use lib.Seq.{get_or-set_same, get_or-set_other}
use Rattle.sheet.specs.Bytes.{byte}
use Rattle.patterns.specs.Patterns.{Pattern}
use Rattle.patterns.specs.Internal.SecondParts.{PartAt, AnyPlace, Noted, PartHere, SecondsNoted}
use Rattle.patterns.proofs.Steps.Parts.{part_some, part_inside, part_map}

-- what a part at a place is, by its first byte
pub record Two (p : List ℕ) (Second : ℕ → ℕ → Type 0) (at end : ℕ) : Type 0 where
  pub first : Pattern
  pub second : Pattern
  pub m : ℕ
  pub noted : Second at m
  pub part_first : PartAt p Second first (at + 1) m
  pub part_second : PartAt p Second second m end

module _ {p : List ℕ} {Second : ℕ → ℕ → Type 0} where
  pub two_inside : {R : Pattern} {at end : ℕ} → PartAt p Second R at end → 1 ≤ byte p at → byte p at ≤ 2 → Two p Second at end
  two_inside (PartAt.action o x e i) l u = absurd (omega arith)
  two_inside (PartAt.sequence {R} {Q} {m = m} o s q r) l u = record { first = R; second = Q; m = m; noted = s; part_first = q; part_second = r }
  two_inside (PartAt.choice {R} {Q} {m = m} o s q r) l u = record { first = R; second = Q; m = m; noted = s; part_first = q; part_second = r }
  two_inside (PartAt.repetition o q) l u = absurd (omega arith)

  pub one_inside : {R : Pattern} {at end : ℕ} → PartAt p Second R at end → byte p at ≡ 3 → (Q : Pattern) × PartAt p Second Q (at + 1) end
  one_inside (PartAt.action o x e i) u = absurd (omega arith)
  one_inside (PartAt.sequence o s q r) u = absurd (omega arith)
  one_inside (PartAt.choice o s q r) u = absurd (omega arith)
  one_inside (PartAt.repetition {R} o q) u = (R, q)

-- ---- the steps of `note_seconds`

module _ {p seconds : List ℕ} {at : ℕ} (h : PartHere p at seconds) where
  pub here_place : at + 2 ≤ length p
  here_place = omega (arith, part_some h.part, part_inside h.part)

  -- an action ends after its entry
  pub noted_action : byte p at ≡ 0 → SecondsNoted p at seconds seconds (at + 2)
  noted_action o = record {
    ends = λ R end q. action_end q;
    noted = λ R end q. action_noted q;
    same = λ i l. refl;
    sized = refl;
  }
    where
      action_end : {R : Pattern} {end : ℕ} → PartAt p AnyPlace R at end → at + 2 ≡ end
      action_end (PartAt.action o' x e i) = sym e
      action_end (PartAt.sequence o' s q r) = absurd (omega arith)
      action_end (PartAt.choice o' s q r) = absurd (omega arith)
      action_end (PartAt.repetition o' q) = absurd (omega arith)

      action_noted : {R : Pattern} {end : ℕ} → PartAt p AnyPlace R at end → PartAt p (Noted seconds) R at end
      action_noted (PartAt.action o' x e i) = PartAt.action o' x e i
      action_noted (PartAt.sequence o' s q r) = absurd (omega arith)
      action_noted (PartAt.choice o' s q r) = absurd (omega arith)
      action_noted (PartAt.repetition o' q) = absurd (omega arith)

  -- the part of a repetition
  pub here_one : byte p at ≡ 3 → PartHere p (at + 1) seconds
  here_one o = let q = one_inside h.part o in
      record { pattern = q.0; end = h.end; part = q.1; short = h.short; room = h.room }

  pub noted_one : byte p at ≡ 3 → {seconds' : List ℕ} {r : ℕ} → SecondsNoted p (at + 1) seconds seconds' r → SecondsNoted p at seconds seconds' r
  noted_one o {seconds'} {r} m = record {
    ends = λ R end q. m.ends (one_inside q o).0 end (one_inside q o).1;
    noted = λ R end q. one_noted q;
    same = λ i l. m.same i (⊎_elim (λ g. inl (omega arith)) inr l);
    sized = m.sized;
  }
    where
      one_noted : {R : Pattern} {end : ℕ} → PartAt p AnyPlace R at end → PartAt p (Noted seconds') R at end
      one_noted (PartAt.action o' x e i) = absurd (omega arith)
      one_noted (PartAt.sequence o' s q r) = absurd (omega arith)
      one_noted (PartAt.choice o' s q r) = absurd (omega arith)
      one_noted {end = end} (PartAt.repetition {R} o' q) = PartAt.repetition o' (m.noted R end q)

  -- the first part of a sequence or choice
  pub here_first : 1 ≤ byte p at → byte p at ≤ 2 → PartHere p (at + 1) seconds
  here_first l u = let q = two_inside h.part l u in
      record {
        pattern = q.first;
        end = q.m;
        part = q.part_first;
        short = h.short;
        room = h.room;
      }

  module _ (l : 1 ≤ byte p at) (u : byte p at ≤ 2) {seconds₁ : List ℕ} {m : ℕ} (f : SecondsNoted p (at + 1) seconds seconds₁ m) where
    -- where it ends, and that the second begins there
    pub first_ends : m ≡ (two_inside h.part l u).m
    first_ends = let q = two_inside h.part l u in f.ends q.first q.m q.part_first

    pub here_second : PartHere p m (set seconds₁ at m)
    here_second = let q = two_inside h.part l u in
        record {
          pattern = q.second;
          end = h.end;
          part = subst (λ (i : ℕ). PartAt p AnyPlace q.second i h.end) (sym first_ends) q.part_second;
          short = h.short;
          room = length-set seconds₁ at m ∙ f.sized ∙ h.room;
        }

    pub first_bounds : (at < m) × (m < length p)
    first_bounds = let q = two_inside h.part l u in
        (omega (arith, first_ends, part_some q.part_first), omega (arith, first_ends, part_some q.part_second, part_inside h.part))

    pub noted_two : {seconds₂ : List ℕ} {r : ℕ} → SecondsNoted p m (set seconds₁ at m) seconds₂ r → SecondsNoted p at seconds seconds₂ r
    noted_two {seconds₂} {r} g = record {
      ends = λ R end q. two_ends (two_inside q l u);
      noted = λ R end q. two_noted q;
      same = same;
      sized = g.sized ∙ length-set seconds₁ at m ∙ f.sized;
    }
      where
        at_second : {Q : Pattern} {m' end : ℕ} → m ≡ m' → PartAt p AnyPlace Q m' end → PartAt p AnyPlace Q m end
        at_second {Q} {end = end} e q = subst (λ (i : ℕ). PartAt p AnyPlace Q i end) (sym e) q

        two_ends : {end : ℕ} → Two p AnyPlace at end → r ≡ end
        two_ends {end} q = g.ends q.second end (at_second (f.ends q.first q.m q.part_first) q.part_second)

        ahead : m ≤ r
        ahead = let q = two_inside h.part l u in omega (arith, two_ends q, first_ends, part_some q.part_second)

        -- a place other than this one, that the second part leaves
        left : (i : ℕ) → (i < at) ⊎ (at < i) → (i < m) ⊎ (r ≤ i) → byte seconds₂ i ≡ byte seconds₁ i
        left i o k = g.same i k ∙ get_or-set_other seconds₁ at i m 0 (⊎_elim (λ j e. absurd (omega arith)) (λ j e. absurd (omega arith)) o)

        same : (i : ℕ) → (i < at) ⊎ (r ≤ i) → byte seconds₂ i ≡ byte seconds i
        same i (inl k) = left i (inl k) (inl (omega (arith, first_bounds.0))) ∙ f.same i (inl (omega arith))
        same i (inr k) = left i (inr (omega (arith, first_bounds.0, ahead))) (inr k) ∙ f.same i (inr (omega (arith, ahead)))

        here : {m' : ℕ} → m ≡ m' → byte seconds₂ at ≡ m'
        here e =
            g.same at (inl first_bounds.0)
            ∙ get_or-set_same seconds₁ at m 0 (omega (arith, f.sized, h.room, h.short, first_bounds.0, first_bounds.1)) ∙ e

        first_noted : {R : Pattern} {m' : ℕ} → m ≡ m' → PartAt p (Noted seconds₁) R (at + 1) m' → PartAt p (Noted seconds₂) R (at + 1) m'
        first_noted e q = part_map (λ i j k v n. left i (inr (omega arith)) (inl (omega arith)) ∙ n) q

        second_noted : {Q : Pattern} {m' end : ℕ} → m ≡ m' → PartAt p AnyPlace Q m' end → PartAt p (Noted seconds₂) Q m' end
        second_noted {Q} {end = end} e q = subst (λ (i : ℕ). PartAt p (Noted seconds₂) Q i end) e (g.noted Q end (at_second e q))

        two_noted : {R : Pattern} {end : ℕ} → PartAt p AnyPlace R at end → PartAt p (Noted seconds₂) R at end
        two_noted (PartAt.action o x e u) = absurd (omega arith)
        two_noted (PartAt.sequence {R} {m = m'} o s q k) =
            let e = f.ends R m' q in PartAt.sequence o (here e) (first_noted e (f.noted R m' q)) (second_noted e k)
        two_noted (PartAt.choice {R} {m = m'} o s q k) =
            let e = f.ends R m' q in PartAt.choice o (here e) (first_noted e (f.noted R m' q)) (second_noted e k)
        two_noted (PartAt.repetition o q) = absurd (omega arith)
