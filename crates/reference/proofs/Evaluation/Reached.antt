-- A round of a least and of a greatest fixed point, and the round that changes nothing.
use Prim.Native.Nat.{ℕ, ◌-◌, ◌^◌, ◌<◌, ◌≤◌}
use mathlib.Core.Path.{◌≡◌, sym, ap, ap₂, subst, ◌∙◌}
use mathlib.Core.Bool.{Bool, true, and-eq-true_iff, false≢true}
use mathlib.Core.List.{List}
use mathlib.Core.Logic.{◌⊎◌, inl, inr, ⊎_elim}
use native.Mathlib.Omega.{arith}
use native.Mathlib.Decide.{dec_lt}
use lib.ListN.{get_or, set}
use lib.Pow.{pow_pos, ones_lt}
use lib.Bits.{bit_and, bit_or, and_lt, or_lt}
use Rattle.sheet.specs.Contents.{plan_body, actions_body, rule_body}
use Rattle.sheet.specs.Rule.{node_count, node_kind, node_x}
use Rattle.sheet.specs.declared.Fields.{Fields}
use Rattle.calculus.specs.Formulas.{Formula, least, greatest}
use Rattle.calculus.specs.Meaning.{Holds, bind}
use Rattle.sheet.specs.TransitionSystem.{plan_of}
use Rattle.calculus.specs.MeetingMask.{bit}
use Rattle.calculus.proofs.Table1.Modal.{or-true}
use Rattle.calculus.proofs.Decoding.Nodes.{least_node_holds, greatest_node_holds}
use Rattle.reference.specs.Internal.Evaluating.{Members, context_of, Restarted, NodeMeaning, Evaluated}
use Rattle.reference.proofs.Words.Words.{bit_or_lem, bit_and_lem, bit_zero, bit_ones}
use Rattle.reference.proofs.Evaluation.Fixpoints.{least_image, least_all, greatest_image, greatest_all, context_self}
use Rattle.reference.proofs.Evaluation.Contexts.{meaning_more}
use Rattle.reference.proofs.Evaluation.Clauses.{At, states_of, φ, kind_is, x_is, rule_kept}
use Rattle.reference.proofs.Evaluation.Rounds.{or_left, and_falls, Going, next_is, wf, i, kept, came, own, each, stays, starts, here, again}

module _ {s masks : List ℕ} {n : ℕ} {words₀ : List ℕ} {f : Fields} (at : At s masks n words₀ f) (h : 7 ≤ f.kind) (g : f.kind < 9)
    (words : List ℕ) (i' : Going s (f.y - 1) f.x words₀ words) (words₁ : List ℕ) (w : ℕ) (m : Evaluated s f.y words words₁ w)
    (v : ℕ) (v-left : v ≡ get_or words₁ f.x 0) where
  v_is : v ≡ get_or words f.x 0
  v_is = v-left ∙ kept at h g words i' words₁ w m f.x (omega arith)

  small : v < 2 ^ states_of s
  small = omega (arith, v_is, (i at h g words i').sets.below f.x)

  own_word : (t : ℕ) → bit v t ≡ bit (get_or words (node_x (rule_body s) n) 0) t
  own_word t = ap (λ (z : ℕ). bit z t) (v_is ∙ ap (λ (x : ℕ). get_or words x 0) (x_is at))

  -- the image of v
  image : Members (states_of s) w (Holds (plan_of (plan_body s)) (φ s f.y) (bind (context_of words) f.x (bit v)))
  image =
      subst (λ (ρ : ℕ → ℕ → Bool). Members (states_of s) w (Holds (plan_of (plan_body s)) (φ s f.y) ρ))
      (context_self words f.x ∙ ap (λ (z : ℕ). bind (context_of words) f.x (bit z)) (sym v_is)) m.are

  module _ (k : f.kind ≡ 7) where
    least_is : φ s n ≡ least f.x (φ s f.y)
    least_is =
        least_node_holds (rule_kept at) (actions_body s) n at.pre.among (sym (kind_is at) ∙ k) ∙
        sym (ap₂ (λ (x y : ℕ). least x (φ s y)) (x_is at) (next_is at h g))

    as_least : (t : ℕ) → NodeMeaning s n words t → Holds (plan_of (plan_body s)) (least f.x (φ s f.y)) (context_of words) t
    as_least t e = subst (λ (χ : Formula). Holds (plan_of (plan_body s)) χ (context_of words) t) least_is e

    of_least : (t : ℕ) → Holds (plan_of (plan_body s)) (least f.x (φ s f.y)) (context_of words) t → NodeMeaning s n words t
    of_least t e = subst (λ (χ : Formula). Holds (plan_of (plan_body s)) χ (context_of words) t) (sym least_is) e

    -- v lies inside the fixed point, and so does its image
    inside : (t : ℕ) → t < states_of s → bit v t ≡ true → NodeMeaning s n words t
    inside t l e = (i at h g words i').ready.inside n (omega arith) at.pre.among (sym (kind_is at) ∙ k) t l (sym (own_word t) ∙ e)

    image_inside : (t : ℕ) → t < states_of s → bit w t ≡ true → NodeMeaning s n words t
    image_inside t l e =
        of_least t (least_image (wf at h g) f.x (φ s f.y) (context_of words) {U = bit v} (λ u r b. as_least u (inside u r b)) t l (image.sound t l e))

    pub step_least : bit_or v w ≡ v → Evaluated s n words₀ words₁ v
    step_least q = came at h g words i' words₁ w m (record {
      small = small;
      sound = inside;
      complete = λ t l e. least_all (wf at h g) f.x (φ s f.y) (context_of words) {U = bit v}
          (λ u r b. sym (ap (λ (z : ℕ). bit z u) q) ∙ (bit_or_lem v w u ∙ (or-true (bit v u) (bit w u)).1 (inr (image.complete u r b)))) t (as_least t e);
    })

    -- the set has grown: fewer words are left
    pub least_less : (full : ℕ) (words₂ : List ℕ) → words₂ ≡ set words₁ f.x (bit_or v w) → (r : List ℕ) → r ≡ rule_body s → (words₃ : List ℕ)
        → Restarted r f.y (node_count r) 8 full words₂ words₃ → (bit_or v w ≡ v → ⊥) → 2 ^ 64 - get_or words₃ f.x 0 < 2 ^ 64 - get_or words f.x 0
    least_less full words₂ put r rule words₃ re q =
        omega (arith, own at h g words i' words₁ w m (bit_or v w) full 8 words₂ put r rule words₃ re (omega arith) (omega arith), v_is, or_left (states_of s) v w at.judging.few small q)

    pub least_round : (full : ℕ) → full ≡ 2 ^ states_of s - 1 → (words₂ : List ℕ) → words₂ ≡ set words₁ f.x (bit_or v w) → (r : List ℕ) → r ≡ rule_body s → (words₃ : List ℕ)
        → Restarted r f.y (node_count r) 8 full words₂ words₃ → Going s (f.y - 1) f.x words₀ words₃
    least_round full Full-is words₂ put r rule words₃ re =
        again at h g words i' words₁ w m (bit_or v w) full 8 words₂ put r rule words₃ re (omega arith) (omega arith) (or_lt (states_of s) v w small m.are.small) (omega (arith, ones_lt (states_of s))) (record {
          inside = λ b c l e. elim (dec_lt n b) [
            | yes d ↦ (λ t r' q. more b l t r' (m.ready.inside b (omega (arith, next_is at h g)) l e t r'
                (sym (ap (λ (z : ℕ). bit z t) (stays at h g words i' words₁ w m (bit_or v w) full 8 words₂ put r rule words₃ re (omega arith) (omega arith) b d l (omega arith) (omega arith) (λ x. omega arith))) ∙ q)))
            | no d ↦ (let q : n ≡ b = omega arith in subst (λ (j : ℕ). (t : ℕ) → t < states_of s → bit (get_or words₃ (node_x (rule_body s) j) 0) t ≡ true → NodeMeaning s j words₃ t) q node)
          ];
          around = λ b c l e. elim (dec_lt n b) [
            | yes d ↦ (λ t r' q. ap (λ (z : ℕ). bit z t) (starts at h g words i' words₁ w m (bit_or v w) full 8 words₂ put r rule words₃ re (omega arith) (omega arith) b d l (omega arith) (omega arith) e) ∙ on t r')
            | no d ↦ (let q : n ≡ b = omega arith in absurd (omega (arith, ap (node_kind (rule_body s)) q, kind_is at)))
          ];
        })
      where
        on : (t : ℕ) → t < states_of s → bit full t ≡ true
        on t l = ap (λ (z : ℕ). bit z t) Full-is ∙ bit_ones (states_of s) t l

        grown : (k t : ℕ) → t < states_of s → bit (get_or words₁ k 0) t ≡ true → bit (get_or words₃ k 0) t ≡ true
        grown k t l e = go (each at h g words i' words₁ w m (bit_or v w) full 8 words₂ put r rule words₃ re (omega arith) (omega arith) k)
          where
            go : ((k ≡ f.x) × (get_or words₃ k 0 ≡ bit_or v w)) ⊎ ((get_or words₃ k 0 ≡ full) ⊎ (get_or words₃ k 0 ≡ get_or words₁ k 0)) → bit (get_or words₃ k 0) t ≡ true
            go (inl q) =
                ap (λ (z : ℕ). bit z t) q.1 ∙ (bit_or_lem v w t ∙ (or-true (bit v t) (bit w t)).1
                (inl (ap (λ (z : ℕ). bit z t) (v_is ∙ (sym (kept at h g words i' words₁ w m f.x (omega arith)) ∙ ap (λ (x : ℕ). get_or words₁ x 0) (sym q.0))) ∙ e)))
            go (inr (inl q)) = ap (λ (z : ℕ). bit z t) q ∙ on t l
            go (inr (inr q)) = ap (λ (z : ℕ). bit z t) q ∙ e

        more : (b : ℕ) → b < node_count (rule_body s) → (t : ℕ) → t < states_of s → NodeMeaning s b words₁ t → NodeMeaning s b words₃ t
        more b l = meaning_more at.judging.kept b l words₁ words₃ grown

        node : (t : ℕ) → t < states_of s → bit (get_or words₃ (node_x (rule_body s) n) 0) t ≡ true → NodeMeaning s n words₃ t
        node t l e =
            (here at h g words i' words₁ w m (bit_or v w) full 8 words₂ put r rule words₃ re (omega arith) (omega arith) t l).0
            (⊎_elim (inside t l) (image_inside t l) ((or-true (bit v t) (bit w t)).0
            (sym (bit_or_lem v w t) ∙ (sym (ap (λ (z : ℕ). bit z t)
            (ap (λ (x : ℕ). get_or words₃ x 0) (sym (x_is at)) ∙ own at h g words i' words₁ w m (bit_or v w) full 8 words₂ put r rule words₃ re (omega arith) (omega arith))) ∙ e))))

  module _ (k : f.kind ≡ 8) where
    greatest_is : φ s n ≡ greatest f.x (φ s f.y)
    greatest_is =
        greatest_node_holds (rule_kept at) (actions_body s) n at.pre.among (sym (kind_is at) ∙ k) ∙
        sym (ap₂ (λ (x y : ℕ). greatest x (φ s y)) (x_is at) (next_is at h g))

    as_greatest : (t : ℕ) → NodeMeaning s n words t → Holds (plan_of (plan_body s)) (greatest f.x (φ s f.y)) (context_of words) t
    as_greatest t e = subst (λ (χ : Formula). Holds (plan_of (plan_body s)) χ (context_of words) t) greatest_is e

    of_greatest : (t : ℕ) → Holds (plan_of (plan_body s)) (greatest f.x (φ s f.y)) (context_of words) t → NodeMeaning s n words t
    of_greatest t e = subst (λ (χ : Formula). Holds (plan_of (plan_body s)) χ (context_of words) t) (sym greatest_is) e

    -- v lies around the fixed point, and so does its image
    around : (t : ℕ) → t < states_of s → NodeMeaning s n words t → bit v t ≡ true
    around t l e = own_word t ∙ (i at h g words i').ready.around n (omega arith) at.pre.among (sym (kind_is at) ∙ k) t l e

    image_around : (t : ℕ) → t < states_of s → NodeMeaning s n words t → bit w t ≡ true
    image_around t l e =
        image.complete t l (greatest_image (wf at h g) f.x (φ s f.y) (context_of words) {U = bit v} (λ u r b. around u r (of_greatest u b)) t l (as_greatest t e))

    pub step_greatest : bit_and v w ≡ v → Evaluated s n words₀ words₁ v
    step_greatest q = came at h g words i' words₁ w m (record {
      small = small;
      sound = λ t l e. of_greatest t (greatest_all (wf at h g) f.x (φ s f.y) (context_of words) {U = bit v}
          (λ u r b. image.sound u r ((and-eq-true_iff (bit v u) (bit w u)).0 (sym (bit_and_lem v w u) ∙ (ap (λ (z : ℕ). bit z u) q ∙ b))).1) t e);
      complete = around;
    })

    -- the set has shrunk
    pub greatest_less : (words₂ : List ℕ) → words₂ ≡ set words₁ f.x (bit_and v w) → (r : List ℕ) → r ≡ rule_body s → (words₃ : List ℕ)
        → (empty : ℕ) → empty ≡ 0 → Restarted r f.y (node_count r) 7 empty words₂ words₃ → (bit_and v w ≡ v → ⊥) → get_or words₃ f.x 0 < get_or words f.x 0
    greatest_less words₂ put r rule words₃ empty none re' q =
        let re = subst (λ (o : ℕ). Restarted r f.y (node_count r) 7 o words₂ words₃) none re' in
        omega (arith, own at h g words i' words₁ w m (bit_and v w) 0 7 words₂ put r rule words₃ re (omega arith) (omega arith), v_is, and_falls v w q)

    pub greatest_round : (words₂ : List ℕ) → words₂ ≡ set words₁ f.x (bit_and v w) → (r : List ℕ) → r ≡ rule_body s → (words₃ : List ℕ)
        → (empty : ℕ) → empty ≡ 0 → Restarted r f.y (node_count r) 7 empty words₂ words₃ → Going s (f.y - 1) f.x words₀ words₃
    greatest_round words₂ put r rule words₃ empty none re' =
        again at h g words i' words₁ w m (bit_and v w) 0 7 words₂ put r rule words₃ re (omega arith) (omega arith) (and_lt (states_of s) v w small m.are.small) (pow_pos (states_of s)) (record {
          inside = λ b c l e. elim (dec_lt n b) [
            | yes d ↦ (λ t r' q. absurd (false≢true (sym (bit_zero t) ∙ (sym (ap (λ (z : ℕ). bit z t)
                (starts at h g words i' words₁ w m (bit_and v w) 0 7 words₂ put r rule words₃ re (omega arith) (omega arith) b d l (omega arith) (omega arith) e)) ∙ q))))
            | no d ↦ (let q : n ≡ b = omega arith in absurd (omega (arith, ap (node_kind (rule_body s)) q, kind_is at)))
          ];
          around = λ b c l e. elim (dec_lt n b) [
            | yes d ↦ (λ t r' q. ap (λ (z : ℕ). bit z t) (stays at h g words i' words₁ w m (bit_and v w) 0 7 words₂ put r rule words₃ re (omega arith) (omega arith) b d l (omega arith) (omega arith) (λ x. omega arith)) ∙
                m.ready.around b (omega (arith, next_is at h g)) l e t r' (less b l t r' q))
            | no d ↦ (let q : n ≡ b = omega arith in subst (λ (j : ℕ). (t : ℕ) → t < states_of s → NodeMeaning s j words₃ t → bit (get_or words₃ (node_x (rule_body s) j) 0) t ≡ true) q node)
          ];
        })
      where
        re : Restarted r f.y (node_count r) 7 0 words₂ words₃
        re = subst (λ (o : ℕ). Restarted r f.y (node_count r) 7 o words₂ words₃) none re'

        fallen : (k t : ℕ) → t < states_of s → bit (get_or words₃ k 0) t ≡ true → bit (get_or words₁ k 0) t ≡ true
        fallen k t l e = go (each at h g words i' words₁ w m (bit_and v w) 0 7 words₂ put r rule words₃ re (omega arith) (omega arith) k)
          where
            go : ((k ≡ f.x) × (get_or words₃ k 0 ≡ bit_and v w)) ⊎ ((get_or words₃ k 0 ≡ 0) ⊎ (get_or words₃ k 0 ≡ get_or words₁ k 0)) → bit (get_or words₁ k 0) t ≡ true
            go (inl q) =
                sym (ap (λ (z : ℕ). bit z t) (v_is ∙ (sym (kept at h g words i' words₁ w m f.x (omega arith)) ∙ ap (λ (x : ℕ). get_or words₁ x 0) (sym q.0)))) ∙
                ((and-eq-true_iff (bit v t) (bit w t)).0 (sym (bit_and_lem v w t) ∙ (sym (ap (λ (z : ℕ). bit z t) q.1) ∙ e))).0
            go (inr (inl q)) = absurd (false≢true (sym (bit_zero t) ∙ (sym (ap (λ (z : ℕ). bit z t) q) ∙ e)))
            go (inr (inr q)) = sym (ap (λ (z : ℕ). bit z t) q) ∙ e

        less : (b : ℕ) → b < node_count (rule_body s) → (t : ℕ) → t < states_of s → NodeMeaning s b words₃ t → NodeMeaning s b words₁ t
        less b l = meaning_more at.judging.kept b l words₃ words₁ fallen

        node : (t : ℕ) → t < states_of s → NodeMeaning s n words₃ t → bit (get_or words₃ (node_x (rule_body s) n) 0) t ≡ true
        node t l e =
            let e' = (here at h g words i' words₁ w m (bit_and v w) 0 7 words₂ put r rule words₃ re (omega arith) (omega arith) t l).1 e in
            ap (λ (z : ℕ). bit z t) (ap (λ (x : ℕ). get_or words₃ x 0) (sym (x_is at)) ∙ own at h g words i' words₁ w m (bit_and v w) 0 7 words₂ put r rule words₃ re (omega arith) (omega arith)) ∙
            (bit_and_lem v w t ∙ (and-eq-true_iff (bit v t) (bit w t)).1 (around t l e', image_around t l e'))
