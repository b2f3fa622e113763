-- A readable pattern is answered: its second parts are noted, it is put before the rule, and the nodes made are written as a rule body.
use Prim.Native.Nat.{ℕ, ◌+◌, ◌*◌, ◌<◌, ◌≤◌}
use mathlib.Core.Path.{◌≡◌, refl, sym, ◌∙◌, ap, subst}
use mathlib.Core.Bool.{Bool, true, false}
use mathlib.Core.List.{List, [], ◌∷◌, ◌++◌, append-nil}
use mathlib.Core.Logic.{◌⊎◌, inl, inr}
use native.Mathlib.Omega.{arith}
use native.Mathlib.Decide.{dec_lt}
use lib.Dec.{eqb}
use lib.ListN.{length, take, drop}
use lib.Seq.{drop_at, length-take-le}
use Rattle.sheet.specs.Bytes.{byte}
use Rattle.sheet.specs.Rule.{one_if}
use Rattle.calculus.specs.Trees.{Tree, tree_size, binders, nodes_from, encode, tree_of}
use Rattle.calculus.proofs.Trees.Encoding.{nodes_length}
use Rattle.patterns.specs.Patterns.{Pattern, written, pattern_bytes}
use Rattle.patterns.specs.Translation.{raised, before, translation}
use Rattle.patterns.specs.Translating.{Translated, answer_tree, leaves}
use Rattle.patterns.specs.Internal.SecondParts.{PartAt, AnyPlace, PartHere, SecondsNoted}
use Rattle.patterns.specs.Internal.Nodes.{Followed, Exceeds, Progressed}
use Rattle.patterns.specs.Internal.Putting.{every_of, Follows, PartRequires, PartPut}
use Rattle.patterns.specs.Internal.Answering.{BodyWritten, Readable, BodyAnswered}
use Rattle.patterns.specs.Internal.Nodes.{Progress, Made, Exceeded}
use Rattle.std.proofs.Common.{Ok, Err}
use Rattle.patterns.specs.declared.TranslateError.TheVariants.{TooLarge}
use Rattle.patterns.proofs.Translation.Sizes.{short_pattern}
use Rattle.patterns.proofs.Statements.Answers.{tree_large, tree_short, tree_wrote}
use Rattle.patterns.proofs.Steps.Parts.{written_part_lem}
use Rattle.patterns.proofs.Steps.ChoiceSteps.{told_followed}

-- the leading byte, and the part after it
module _ (p : List ℕ) (every : Bool) (R : Pattern) (q : p ≡ pattern_bytes every R) where
  leading_is : byte p 0 ≡ one_if every
  leading_is = ap (λ (l : List ℕ). byte l 0) q

  every_is : every_of p ≡ every
  every_is = ap (λ (b : ℕ). eqb b 1) leading_is ∙ flag every
    where
      flag : (b : Bool) → eqb (one_if b) 1 ≡ b
      flag true = refl
      flag false = refl

  whole_part : PartAt p AnyPlace R 1 (length p)
  whole_part = written_part_lem p R 1 (length p) [] (ap (drop 1) q ∙ sym (append-nil (written R))) (let e = ap length q in omega arith)

-- the nodes of a tree that are made are its rule body
module _ {t : Tree} {made made' : List ℕ} {n b : ℕ} (f : Followed t 0 0 made made' n b) where
  body_encoded : length made ≡ 193 → n ∷ drop 1 (take (1 + 3 * n) made') ≡ encode t
  unfolding encode
  body_encoded o =
      let i : n ≡ tree_size t = omega (arith, f.nodes_are) in
      λ j. i j ∷ (ap (drop 1) f.bytes ∙ drop_at (take 1 made) (nodes_from 0 t) 1 (length-take-le 1 made (omega arith))) j

  body_length : length (encode t) ≡ 1 + 3 * n
  unfolding encode
  body_length = let i = nodes_length 0 t in omega (arith, f.nodes_are)

module _ {r p : List ℕ} (h : Readable r p) where
  pub here_whole : length p ≤ 189 → {seconds : List ℕ} → length seconds ≡ 189 → PartHere p 1 seconds
  here_whole l s = record { pattern = h.pattern; end = length p; part = whole_part p h.every h.pattern h.bytes; short = l; room = s }

  -- the bytes of the tree in made, put behind nothing
  module _ (l : length p ≤ 189) {seconds seconds' : List ℕ} {place : ℕ} (m : SecondsNoted p 1 seconds seconds' place) where
    rule_follows : (slots : List ℕ) → Follows p seconds' slots (every_of p) (tree_of r) (length p) 0 (λ n. raised n (tree_of r))
    rule_follows slots = Follows.rule refl

    pub call_whole : {slots made : List ℕ} → length slots ≡ 189 → length made ≡ 193 → PartRequires r p seconds' slots 1 0 0 0 made
    call_whole {slots} {made} s o = record {
      making = record {
        entries = h.entries;
        kept = h.kept;
        few_entries = h.few_entries;
        few_nodes = omega arith;
        few_binders = omega arith;
        room = o;
      };
      short = l;
      room = s;
      pattern = h.pattern;
      end = length p;
      part = m.noted h.pattern (length p) (whole_part p h.every h.pattern h.bytes);
      next = λ n. raised n (tree_of r);
      follows = rule_follows slots;
      belongs = omega arith;
    }

    module _ {slots slots' made made' : List ℕ} {x : Progress} (g : PartPut r p seconds' slots slots' 1 0 0 0 made made' x) where
      whole_made : (every : Bool) (R : Pattern) → p ≡ pattern_bytes every R → Progressed (translation every R (tree_of r)) 0 0 made made' x
      unfolding translation
      whole_made every R q =
          subst (λ (b : Bool). Progressed (before b R (λ n. raised n (tree_of r)) 0) 0 0 made made' x) (every_is p every R q)
          (g.made R (length p) (λ n. raised n (tree_of r)) (m.noted R (length p) (whole_part p every R q)) (rule_follows slots))

      -- it does not fit
      pub answered_exceeded : x ≡ Exceeded → (out : List ℕ) → BodyAnswered r p out (Err TooLarge) out
      answered_exceeded e out = record {
        answer = λ every R q. sym (tree_large (translation every R (tree_of r)) (length out)
            (over (subst (Progressed (translation every R (tree_of r)) 0 0 made made') e (whole_made every R q))));
        left = λ every R q. refl;
      }
        where
          over : {t : Tree} → Progressed t 0 0 made made' Exceeded → (64 < tree_size t) ⊎ (6 < binders t)
          over (Progressed.exceeded (Exceeds.nodes d)) = inl (omega arith)
          over (Progressed.exceeded (Exceeds.bound d)) = inr (omega arith)

      -- it fits: what is written is its rule body
      module _ {n b : ℕ} (e : x ≡ Made n b) where
        made_tree : (every : Bool) (R : Pattern) → p ≡ pattern_bytes every R → Followed (translation every R (tree_of r)) 0 0 made made' n b
        made_tree every R q = told_followed (whole_made every R q) e

        pub made_bounds : length made ≡ 193 → (n ≤ 64) × (length made' ≡ 193)
        made_bounds o = let f = made_tree h.every h.pattern h.bytes in (f.few_nodes, f.sized ∙ o)

        pub answered_written : length made ≡ 193 → {out out' : List ℕ} {y : Translated} → BodyWritten made' n out y out' → BodyAnswered r p out y out'
        answered_written o {out} {out'} {y} w = record {
          answer = λ every R q. (both every R q).0;
          left = λ every R q. (both every R q).1;
        }
          where
            both : (every : Bool) (R : Pattern) → p ≡ pattern_bytes every R
                → (y ≡ answer_tree (translation every R (tree_of r)) (length out)) × (out' ≡ leaves (encode (translation every R (tree_of r))) out y)
            both every R q =
                let t = translation every R (tree_of r) in
                let f = made_tree every R q in
                let nodes : tree_size t ≤ 64 = omega (arith, f.nodes_are, f.few_nodes) in
                let bound : binders t ≤ 6 = omega (arith, f.binders_are, f.few_binders) in
                elim (dec_lt (length out) (1 + 3 * n)) [
                  | yes g ↦
                      let k = w.short g in
                      (k.0 ∙ sym (tree_short t (length out) nodes bound (omega (arith, body_length f))), k.1 ∙ ap (leaves (encode t) out) (sym k.0))
                  | no g ↦
                      let k = w.wrote (omega arith) in (
                        k.0 ∙ ap Ok (sym (body_length f)) ∙ sym (tree_wrote t (length out) nodes bound (omega (arith, body_length f))),
                        k.1 ∙ ap (λ (v : List ℕ). v ++ drop (1 + 3 * n) out) (body_encoded f o) ∙ ap (leaves (encode t) out) (sym k.0),
                      )
                ]

  -- a pattern too long to become 64 nodes
  pub answered_long : 189 < length p → (out : List ℕ) → BodyAnswered r p out (Err TooLarge) out
  answered_long l out = record {
    answer = λ every R q. sym (tree_large (translation every R (tree_of r)) (length out) (inl (over every R q)));
    left = λ every R q. refl;
  }
    where
      over : (every : Bool) (R : Pattern) → p ≡ pattern_bytes every R → 64 < tree_size (translation every R (tree_of r))
      over every R q = elim (dec_lt 64 (tree_size (translation every R (tree_of r)))) [
        | yes g ↦ g
        | no g ↦ absurd (omega (arith, ap length q, short_pattern every R (tree_of r) (omega arith)))
      ]
