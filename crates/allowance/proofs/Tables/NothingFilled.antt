-- A query that fills nothing leaves its table as it was.
use Prim.Native.Nat.{ℕ, zero, suc, ◌+◌, ◌*◌, ◌/◌, ◌%◌, ◌<◌, ◌≤◌}
use mathlib.Core.Path.{◌≡◌, refl, sym, ap, ap₂, ◌∙◌}
use mathlib.Core.Bool.{Bool, true, false}
use mathlib.Core.List.{List, [], ◌∷◌, ◌++◌}
use native.Mathlib.Omega.{arith}
use lib.ListN.{length, drop, take-append-drop}
use lib.Seq.{drop-cons}
use Rattle.sheet.specs.Bytes.{slice}
use Rattle.sheet.specs.RunningCalls.{AllBytes}
use Rattle.std.specs.Prelude.{Err, Ok}
use Rattle.sheet.specs.Refusals.{Check}
use Rattle.sheet.proofs.Acceptance.Parts.{slice_small}
use Rattle.rows.specs.Tables.{byte_at, count, rewritten, fills, filling, query, visits, table}
use Rattle.rows.proofs.Tables.Counting.{count_some}
use Rattle.judge.specs.Cells.{cell_bytes, table_bytes, cells_in}
use Rattle.judge.specs.StoredCount.{in_four_bytes, stored_count, table_with}
use Rattle.judge.specs.Querying.{query_check, count_right, result_of, answer_queried, queried_of, left_by, table_queried}
use Rattle.judge.specs.Querying.{reported_query, query_report_of}
use Rattle.judge.proofs.Statements.CallNumbers.{call_numbers}

-- a part of a list of bytes
pub part_bytes : (t : List ℕ) → AllBytes t → (at size : ℕ) → AllBytes (slice t at size)
part_bytes t bytes at size = record { at = slice_small t bytes.at at size }

rewritten_same : (n : ℕ) (f : ℕ → ℕ → ℕ) (t : List ℕ) → ((i b : ℕ) → i < n → f i b ≡ b) → rewritten n f t ≡ t
unfolding rewritten
rewritten_same zero f t h = refl
rewritten_same (suc n) f [] h = refl
rewritten_same (suc n) f (b ∷ bs) h =
    ap₂ (λ (x : ℕ) (l : List ℕ). x ∷ l) (h 0 b (omega arith)) (rewritten_same n (λ i. f (suc i)) bs (λ i c l. h (suc i) c (omega arith)))

none_passes : (n : ℕ) (p : ℕ → Bool) → count n p ≡ 0 → (i : ℕ) → i < n → p i ≡ false
none_passes n p e i h = go (p i) refl
  where
    go : (b : Bool) → p i ≡ b → b ≡ false
    go true q = absurd (count_some n p i h q e)
    go false q = refl

filling_none : {C : Type 0} (position : C → ℕ) (size : ℕ) (cell_at : ℕ → C) (v : C → Bool) (l : List C) (t : List ℕ)
    → count size (fills position t l) ≡ 0 → filling position size cell_at v l t ≡ t
unfolding filling
filling_none position size cell_at v l t e = rewritten_same size _ t (λ i b h. rw (none_passes size (fills position t l) e i h))

cells_same : (s : List ℕ) (state : ℕ) (t : List ℕ) → visits (result_of s state t) ≡ 0 → table (result_of s state t) ≡ cells_in s t
unfolding query
cells_same s state t e = filling_none _ _ _ _ _ (cells_in s t) e

-- the four bytes of a number are those that it was read from
four_bytes : (a b c d : ℕ) → a < 256 → b < 256 → c < 256 → d < 256
    → in_four_bytes (a + 256 * b + 65536 * c + 16777216 * d) ≡ a ∷ b ∷ c ∷ d ∷ []
four_bytes a b c d ha hb hc hd = go (a + 256 * b + 65536 * c + 16777216 * d) refl
  where
    digit : (m x q : ℕ) → m ≡ x + 256 * q → x < 256 → m % 256 ≡ x
    digit m x q e h = omega arith

    go : (m : ℕ) → m ≡ a + 256 * b + 65536 * c + 16777216 * d → in_four_bytes m ≡ a ∷ b ∷ c ∷ d ∷ []
    go m e =
        let q₁ : m / 256 ≡ b + 256 * c + 65536 * d = omega arith in
        let q₂ : m / 65536 ≡ c + 256 * d = omega arith in
        let q₃ : m / 16777216 ≡ d = omega arith in
        let e₀ : m % 256 ≡ a = omega arith in
        let e₁ : m / 256 % 256 ≡ b = digit (m / 256) b (c + 256 * d) (omega arith) hb in
        let e₂ : m / 65536 % 256 ≡ c = digit (m / 65536) c d q₂ hc in
        let e₃ : m / 16777216 % 256 ≡ d = digit (m / 16777216) d 0 (omega arith) hd in
        ap₂ (λ (x : ℕ) (l : List ℕ). x ∷ l) e₀ (ap₂ (λ (x : ℕ) (l : List ℕ). x ∷ l) e₁ (ap₂ (λ (x y : ℕ). x ∷ y ∷ []) e₂ e₃))

module _ (s t : List ℕ) (bytes : AllBytes t) (long : table_bytes s ≤ length t) where
  abbrev n : ℕ
  n = cell_bytes s

  -- a byte and those after it
  from_byte : (i j : ℕ) → i + 1 ≡ j → i < length t → drop i t ≡ byte_at t i ∷ drop j t
  from_byte i j e h = let q : suc i ≡ j = omega arith in drop-cons t i 0 h ∙ ap (λ (k : ℕ). byte_at t i ∷ drop k t) q

  behind_cells : drop n t ≡ in_four_bytes (stored_count s t) ++ drop (table_bytes s) t
  behind_cells =
      from_byte n (n + 1) refl (omega arith)
      ∙ ap (λ (l : List ℕ). byte_at t n ∷ l) (from_byte (n + 1) (n + 2) (omega arith) (omega arith)
      ∙ ap (λ (l : List ℕ). byte_at t (n + 1) ∷ l) (from_byte (n + 2) (n + 3) (omega arith) (omega arith)
      ∙ ap (λ (l : List ℕ). byte_at t (n + 2) ∷ l) (from_byte (n + 3) (n + 4) (omega arith) (omega arith))))
      ∙ ap (λ (l : List ℕ). l ++ drop (table_bytes s) t)
      (sym (four_bytes (byte_at t n) (byte_at t (n + 1)) (byte_at t (n + 2)) (byte_at t (n + 3))
      (bytes.at n) (bytes.at (n + 1)) (bytes.at (n + 2)) (bytes.at (n + 3))))

  parts_of_table : table_with s (cells_in s t) (stored_count s t) t ≡ t
  parts_of_table = ap (λ (l : List ℕ). cells_in s t ++ l) (sym behind_cells) ∙ take-append-drop n t

pub nothing_filled : (s : List ℕ) (state : ℕ) (t : List ℕ) → AllBytes t → (query_report_of s state t).number ≡ 0
    → (query_report_of s state t).visits ≡ 0 → table_queried s state t ≡ t
unfolding queried_of table_queried
nothing_filled s state t bytes number none = go (query_check s state t) (count_right s t) none
  where
    long : table_bytes s ≤ length t
    long =
        let numbers = call_numbers.queries s state t (queried_of s state t) (table_queried s state t) (refl, (refl, refl)) in
        (numbers.none.0 number).0.there.long

    go : (c : Check) (b : Bool) → (reported_query (answer_queried (result_of s state t) c b)).visits ≡ 0
        → left_by s (result_of s state t) t c b ≡ t
    go (Ok tt) true e =
        let same : stored_count s t + visits (result_of s state t) ≡ stored_count s t = omega (arith, e) in
        ap₂ (λ (l : List ℕ) (k : ℕ). table_with s l k t) (cells_same s state t e) same ∙ parts_of_table s t bytes long
    go (Ok tt) false e = refl
    go (Err x) b e = refl
