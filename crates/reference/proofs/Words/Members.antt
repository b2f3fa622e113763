-- Sets of states as words: the empty set, the full set, union, intersection, and the states outside a set.
use Prim.Native.Nat.{ℕ, ◌-◌, ◌^◌, ◌<◌}
use mathlib.Core.Path.{◌≡◌, refl, sym, ◌∙◌}
use mathlib.Core.Bool.{Bool, true, false, not, and-eq-true_iff, false≢true}
use mathlib.Core.Logic.{◌⊎◌, ◌↔◌, ⊎_map}
use lib.Pow.{pow_pos, ones_lt}
use lib.Bits.{bit_and, bit_or, bit_xor, and_lt, or_lt, xor_lt}
use borrow.Author.Tests.{not-true}
use Rattle.calculus.specs.MeetingMask.{bit}
use Rattle.calculus.proofs.Table1.Modal.{or-true}
use Rattle.reference.specs.Reference.{word_up_to}
use Rattle.reference.specs.Internal.Evaluating.{Members}
use Rattle.reference.proofs.Words.Words.{bit_or_lem, bit_and_lem, bit_flip, bit_zero, bit_ones, word_same, word_of_bits}
use Rattle.sheet.proofs.Checks.Bools.{together}

module _ {S : ℕ} where
  -- the same set by another name
  pub members_as : {w : ℕ} {Q R : ℕ → Type 0} → Members S w Q → ((t : ℕ) → t < S → Q t ↔ R t) → Members S w R
  members_as m h = record { small = m.small; sound = λ t l b. (h t l).0 (m.sound t l b); complete = λ t l r. m.complete t l ((h t l).1 r) }

  pub members_none : Members S 0 (λ t. ⊥)
  members_none = record { small = pow_pos S; sound = λ t l b. false≢true (sym (bit_zero t) ∙ b); complete = λ t l h. absurd h }

  pub members_all : Members S (2 ^ S - 1) (λ t. Unit {0})
  members_all = record { small = ones_lt S; sound = λ t l b. tt; complete = λ t l h. bit_ones S t l }

  pub members_union : {v w : ℕ} {Q R : ℕ → Type 0} → Members S v Q → Members S w R → Members S (bit_or v w) (λ t. Q t ⊎ R t)
  members_union {v} {w} m k = record {
    small = or_lt S v w m.small k.small;
    sound = λ t l b. ⊎_map (m.sound t l) (k.sound t l) ((or-true (bit v t) (bit w t)).0 (sym (bit_or_lem v w t) ∙ b));
    complete = λ t l h. bit_or_lem v w t ∙ (or-true (bit v t) (bit w t)).1 (⊎_map (m.complete t l) (k.complete t l) h);
  }

  pub members_both : {v w : ℕ} {Q R : ℕ → Type 0} → Members S v Q → Members S w R → Members S (bit_and v w) (λ t. Q t × R t)
  members_both {v} {w} m k = record {
    small = and_lt S v w m.small k.small;
    sound = λ t l b. let e = (and-eq-true_iff (bit v t) (bit w t)).0 (sym (bit_and_lem v w t) ∙ b) in (m.sound t l e.0, k.sound t l e.1);
    complete = λ t l h. bit_and_lem v w t ∙ (and-eq-true_iff (bit v t) (bit w t)).1 (m.complete t l h.0, k.complete t l h.1);
  }

  -- the states outside the set
  pub members_others : {w : ℕ} {Q : ℕ → Type 0} → Members S w Q → Members S (bit_xor (2 ^ S - 1) w) (λ t. Q t → ⊥)
  members_others {w} {Q} m = record {
    small = xor_lt S (2 ^ S - 1) w (ones_lt S) m.small;
    sound = λ t l b q. false≢true (sym (not-true (bit w t) (sym (bit_flip (2 ^ S - 1) w t (bit_ones S t l)) ∙ b)) ∙ m.complete t l q);
    complete = λ t l h. bit_flip (2 ^ S - 1) w t (bit_ones S t l) ∙ out t l h (bit w t) refl;
  }
    where
      out : (t : ℕ) → t < S → (Q t → ⊥) → (b : Bool) → bit w t ≡ b → not b ≡ true
      out t l h true e = absurd (h (m.sound t l e))
      out t l h false e = refl

  -- a word is known by its members
  pub members_word : {w : ℕ} {Q : ℕ → Type 0} (U : ℕ → Bool) → Members S w Q → ((t : ℕ) → t < S → Q t ↔ (U t ≡ true)) → w ≡ word_up_to S U
  members_word {w} U m h = word_of_bits S w m.small ∙ word_same S (bit w) U (λ t l. together (bit w t) (U t) (λ b. (h t l).0 (m.sound t l b), λ u. m.complete t l ((h t l).1 u)))
