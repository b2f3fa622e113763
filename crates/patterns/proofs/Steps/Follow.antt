-- What follows a part, and the slots that say it.
use Prim.Native.Nat.{ℕ, ◌+◌, ◌<◌, ◌≤◌}
use mathlib.Core.Path.{◌≡◌, ◌∙◌}
use mathlib.Core.Bool.{Bool}
use mathlib.Core.List.{List}
use native.Mathlib.Omega.{arith}
use lib.ListN.{length, set}
use lib.Seq.{get_or-set_same, get_or-set_other}
use Rattle.sheet.specs.Bytes.{byte}
use Rattle.calculus.specs.Trees.{Tree}
use Rattle.patterns.specs.Patterns.{Pattern}
use Rattle.patterns.specs.Translation.{before}
use Rattle.patterns.specs.Internal.SecondParts.{PartAt, Noted}
use Rattle.patterns.specs.Internal.Putting.{Follows}

module _ {p seconds slots : List ℕ} {every : Bool} {t : Tree} where
  -- what begins after one place begins after an earlier one
  pub follows_floor : {floor floor' i : ℕ} {k : ℕ → Tree} → floor' ≤ floor → Follows p seconds slots every t floor i k → Follows p seconds slots every t floor' i k
  follows_floor h (Follows.rule z) = Follows.rule z
  follows_floor h (Follows.variable o l b s) = Follows.variable o l b s
  follows_floor {floor' = floor'} h (Follows.part {m = m} o l b n f q s j g) = let u : floor' ≤ m = omega arith in Follows.part o l b n u q s j g

  -- only the slots up to its place say what follows
  pub follows_agree : {slots' : List ℕ} {floor i : ℕ} {k : ℕ → Tree} → ((j : ℕ) → j ≤ i → byte slots' j ≡ byte slots j)
      → Follows p seconds slots every t floor i k → Follows p seconds slots' every t floor i k
  follows_agree h (Follows.rule z) = Follows.rule z
  follows_agree {i = i} h (Follows.variable o l b s) = Follows.variable o l b (h i (omega arith) ∙ s)
  follows_agree {i = i} h (Follows.part o l b n f q s j g) =
      Follows.part o l b n f q (h i (omega arith) ∙ s) j (follows_agree (λ u v. h u (omega arith)) g)

  -- what is stored at the place of a byte does not touch what follows it
  pub follows_set : {floor i : ℕ} {k : ℕ → Tree} (at v : ℕ) → i < at → Follows p seconds slots every t floor i k
      → Follows p seconds (set slots at v) every t floor i k
  follows_set at v l f = follows_agree (λ j u. get_or-set_other slots at j v 0 (λ e. absurd (omega arith))) f

  -- after the first part of a sequence
  pub follows_first_lem : {Q : Pattern} {at m end after : ℕ} {k : ℕ → Tree} → at < length slots → at + 1 < m → byte p at ≡ 1 → byte seconds at ≡ m
      → PartAt p (Noted seconds) Q m end → after < at → Follows p seconds slots every t end after k
      → Follows p seconds (set slots at after) every t m at (before every Q k)
  follows_first_lem {at = at} {m} {after = after} u l b n q h f =
      let o : 1 ≤ at = omega arith in
      let v : at < m = omega arith in
      let w : m ≤ m = omega arith in
      Follows.part o v b n w q (get_or-set_same slots at after 0 u) h (follows_set at after h f)
