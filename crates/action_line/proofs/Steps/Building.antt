-- The entries that the pass over a line makes.
use Prim.Native.Nat.{ℕ, zero, suc, ◌+◌, ◌-◌, ◌≤◌}
use mathlib.Core.Path.{◌≡◌, refl, sym, ap, ◌∙◌}
use mathlib.Core.Bool.{Bool, true, false}
use mathlib.Core.List.{List, [], ◌∷◌}
use native.Mathlib.Omega.{arith}
use lib.ListN.{length}
use Rattle.sheet.specs.Bytes.{pick}
use Rattle.action_line.specs.Tokens.{Token, number, true_word, false_word, not_word, and_word, or_word, open_parenthesis, close_parenthesis}
use Rattle.action_line.specs.Tokens.{invalid}
use Rattle.action_line.specs.Precedence.{or_kind, and_kind, Waiting, ParserState, reducible, reduce, ended, step, run, built_from}
use Rattle.action_line.specs.Entries.{word_count}
use Rattle.action_line.specs.Internal.Building.{Made, made, entries_in_place, stack_of, state_of, IsNew}
use Rattle.action_line.specs.declared.builder.BodyBuilder.{BodyBuilder}
use Rattle.action_line.specs.declared.builder.Pending.{Pending}

-- ---- operators that wait and entries together: one for each number and word

abbrev weight : ParserState ℕ Made → ℕ
weight s = length s.stack + s.made.count

reduce_keeps : (kind d : ℕ) (ws : List (Waiting ℕ)) (o : Made)
    → (weight (reduce entries_in_place kind d ws o) ≡ length ws + o.count) × ((reduce entries_in_place kind d ws o).depth ≡ d)
unfolding reduce
reduce_keeps kind d [] o = (refl, refl)
reduce_keeps kind d (w ∷ ws) o =
    go (reducible kind d w) (reduce_keeps kind d ws (entries_in_place.combine w.kind w.left o))
  where
    next : ParserState ℕ Made
    next = reduce entries_in_place kind d ws (entries_in_place.combine w.kind w.left o)

    now : ParserState ℕ Made
    now = record { depth = d; stack = w ∷ ws; made = o }

    go : (b : Bool) → (weight next ≡ length ws + (o.count + 1)) × (next.depth ≡ d)
        → (weight (pick b next now) ≡ length (w ∷ ws) + o.count) × ((pick b next now).depth ≡ d)
    go true q = (q.0 ∙ omega arith, q.1)
    go false q = (refl, refl)

-- a token adds what it stands for, and at most one parenthesis
step_keeps : (t : Token) (s : ParserState ℕ Made)
    → (weight (step entries_in_place t s) ≡ weight s + word_count t) × ((step entries_in_place t s).depth ≤ suc s.depth)
step_keeps (number n) s = let k = reduce_keeps and_kind s.depth s.stack (entries_in_place.action n s.made) in (k.0 ∙ omega arith, omega (arith, k.1))
step_keeps true_word s = let k = reduce_keeps and_kind s.depth s.stack (entries_in_place.constant true s.made) in (k.0 ∙ omega arith, omega (arith, k.1))
step_keeps false_word s = let k = reduce_keeps and_kind s.depth s.stack (entries_in_place.constant false s.made) in (k.0 ∙ omega arith, omega (arith, k.1))
step_keeps not_word s = (omega arith, omega arith)
step_keeps and_word s = (omega arith, omega arith)
step_keeps or_word s = let k = reduce_keeps or_kind s.depth s.stack s.made in (omega (arith, k.0), omega (arith, k.1))
step_keeps open_parenthesis s = (omega arith, omega arith)
step_keeps close_parenthesis s =
    let e = ended entries_in_place s in
    let k = reduce_keeps or_kind s.depth s.stack s.made in
    let h = reduce_keeps and_kind (e.depth - 1) e.stack e.made in
    (h.0 ∙ k.0 ∙ omega arith, omega (arith, k.1, h.1))
step_keeps invalid s = (omega arith, omega arith)

stack_length : (waiting : List Pending) (n : ℕ) → length (stack_of waiting n) ≡ n
unfolding stack_of
stack_length waiting zero = refl
stack_length waiting (suc n) = ap suc (stack_length waiting n)

-- ---- the loop

abbrev start : List ℕ → ParserState ℕ Made
start out = record { depth = 0; stack = []; made = made 0 out }

-- So many entries are made or wait, and what the tokens to come make of them is what all tokens make.
pub record Continues (all : List Token) (made₀ : List ℕ) (b : BodyBuilder) (n : ℕ) (ts : List Token) : Type 0 where
  pub runs : run entries_in_place ts (state_of b) ≡ run entries_in_place all (start made₀)
  pub counted : b.top + b.count ≡ n
  -- no more parentheses than tokens
  pub shallow : b.depth + length ts ≤ length all

pub build_starts : (all : List Token) (b : BodyBuilder) → IsNew b → Continues all b.made b 0 all
unfolding stack_of
build_starts all b h =
    record {
      runs =
          ap (run entries_in_place all)
          (λ i. record { depth = h.depth_none i; stack = stack_of b.waiting (h.none_waiting i); made = made (h.none_made i) b.made });
      counted = omega (arith, h.none_waiting, h.none_made);
      shallow = omega (arith, h.depth_none);
    }

module _ (all : List Token) (made₀ : List ℕ) where
  pub build_over_token : {b b' : BodyBuilder} {n n' : ℕ} {t : Token} {ts us : List Token} → Continues all made₀ b n us → us ≡ t ∷ ts
      → n' ≡ n + word_count t → state_of b' ≡ step entries_in_place t (state_of b) → Continues all made₀ b' n' ts
  unfolding run
  build_over_token {b} {b'} {t = t} {ts} {us} s y m e =
      let z = step_keeps t (state_of b) in
      let h : b'.depth ≡ (step entries_in_place t (state_of b)).depth = ap (λ (s : ParserState ℕ Made). s.depth) e in
      let l : length us ≡ suc (length ts) = ap length y in
      record {
        runs =
            ap (run entries_in_place ts) e ∙ ap (λ (vs : List Token). run entries_in_place vs (state_of b)) (sym y) ∙ s.runs;
        counted =
            omega (arith, m, s.counted, ap weight e, z.0, stack_length b.waiting b.top, stack_length b'.waiting b'.top);
        shallow = omega (arith, h, z.1, s.shallow);
      }

  pub build_ends : {b : BodyBuilder} {n : ℕ} (b' : BodyBuilder) → Continues all made₀ b n [] → state_of b' ≡ ended entries_in_place (state_of b)
      → b'.made ≡ (built_from entries_in_place all (made 0 made₀)).bytes
  unfolding run
  build_ends {b} b' s e =
      ap (λ (s : ParserState ℕ Made). s.made.bytes) e ∙ ap (λ (s : ParserState ℕ Made). (ended entries_in_place s).made.bytes) s.runs
