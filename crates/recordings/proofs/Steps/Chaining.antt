-- What the steps of the code that puts the chain of a run together show.
use Prim.Native.Nat.{ℕ, suc, ◌+◌, ◌*◌, ◌/◌, ◌%◌, ◌<◌, ◌≤◌}
use mathlib.Core.Path.{◌≡◌, sym, ap, ◌∙◌, subst}
use mathlib.Core.List.{List, [], ◌∷◌, ◌++◌, append_assoc}
use native.Mathlib.Omega.{arith}
use lib.ListN.{length, get_or, take, drop, take-append-drop}
use lib.Seq.{take_at, take_all, take-suc, length-take-le}
use Rattle.text.specs.Placing.{place_after, buffer_after, Puts}
use Rattle.text.proofs.Placing.{Placed, place_fitting, buffer_fitting, placed_one, placed_next, placed_at_start}
use Rattle.sheet.specs.Contents.{plan_body, actions_body, rule_body}
use Rattle.sheet.specs.Plan.{action_count}
use Rattle.sheet.specs.WellFormed.{WellFormedSheet}
use Rattle.sheet.specs.Writing.{head}
use Rattle.sheet.specs.Writing as sheet
use Rattle.sheet.proofs.Acceptance.Sheet.{BodyLengths, accepted_iff, body_lengths}
use Rattle.recordings.specs.Runs.{most_actions}
use Rattle.recordings.specs.RunAsSheet.{chain_bytes, chain_body, chain_sheet}
use Rattle.recordings.specs.Internal.Chains.{chain_room, chain_sheet_room, chain_head, Judgeable}
use Rattle.recordings.proofs.Plans.Chains.{chain_length}
use Rattle.recordings.proofs.Plans.Sheets.{chain_sheet_length}

chain_append : (i : ℕ) (xs ys : List ℕ) → chain_bytes i (xs ++ ys) ≡ chain_bytes i xs ++ chain_bytes (i + length xs) ys
unfolding chain_bytes
chain_append i [] ys = let z : i ≡ i + 0 = omega arith in ap (λ (k : ℕ). chain_bytes k ys) z
chain_append i (x ∷ xs) ys =
    let z : suc i + length xs ≡ i + suc (length xs) = omega arith in
    ap (λ (l : List ℕ). i ∷ x ∷ suc i ∷ l) (chain_append (suc i) xs ys ∙ ap (λ (k : ℕ). chain_bytes (suc i) xs ++ chain_bytes k ys) z)

module _ (run : List ℕ) where
  -- the transitions of a beginning are the first ones
  pub chain_taken : (n : ℕ) → n ≤ length run → take (3 * n) (chain_bytes 0 run) ≡ chain_bytes 0 (take n run)
  chain_taken n h =
      let size : length (chain_bytes 0 (take n run)) ≡ 3 * n = chain_length 0 (take n run) ∙ ap (λ (k : ℕ). 3 * k) (length-take-le n run h) in
      ap (take (3 * n)) (ap (chain_bytes 0) (sym (take-append-drop n run)) ∙ chain_append 0 (take n run) (drop n run))
      ∙ take_at (chain_bytes 0 (take n run)) (chain_bytes (0 + length (take n run)) (drop n run)) (3 * n) size

  -- one transition more
  chain_next : (i : ℕ) → i < length run → chain_bytes 0 (take (i + 1) run) ≡ chain_bytes 0 (take i run) ++ (i ∷ get_or run i 0 ∷ (i + 1) ∷ [])
  unfolding chain_bytes
  chain_next i h =
      let more : i + 1 ≡ suc i = omega arith in
      let from : 0 + length (take i run) ≡ i = omega (arith, length-take-le i run (omega arith)) in
      ap (λ (k : ℕ). chain_bytes 0 (take k run)) more ∙ ap (chain_bytes 0) (take-suc run i 0 h)
      ∙ chain_append 0 (take i run) (get_or run i 0 ∷ [])
      ∙ ap (λ (k : ℕ). chain_bytes 0 (take i run) ++ (k ∷ get_or run i 0 ∷ suc k ∷ [])) from
      ∙ ap (λ (k : ℕ). chain_bytes 0 (take i run) ++ (i ∷ get_or run i 0 ∷ k ∷ [])) (sym more)

  module _ (room : List ℕ) where
    -- the first i transitions are put
    abbrev pub Chaining : ℕ → ℕ → List ℕ → Type 0
    Chaining i at buffer = Placed 0 room (chain_bytes 0 (take i run)) at buffer

    pub chaining_start : {at : ℕ} {buffer : List ℕ} → at ≡ 0 → buffer ≡ room → Chaining 0 at buffer
    unfolding chain_bytes
    chaining_start p q =
        let fits : 0 + 0 ≤ length room = omega arith in
        record { place_is = p ∙ sym (place_fitting [] 0 room fits); buffer_is = λ h. q ∙ sym (buffer_fitting [] 0 room fits); length_is = ap length q }

    pub chaining_next : (i : ℕ) {at place : ℕ} {e f : List ℕ} → i < length run → Chaining i at e
        → (place ≡ place_after (i ∷ get_or run i 0 ∷ (i + 1) ∷ []) at e) × (f ≡ buffer_after (i ∷ get_or run i 0 ∷ (i + 1) ∷ []) at e)
        → Chaining (i + 1) place f
    chaining_next i {at} {place} {e} {f} h c p =
        subst (λ (l : List ℕ). Placed 0 room l place f) (sym (chain_next i h)) (placed_next (i ∷ get_or run i 0 ∷ (i + 1) ∷ []) c p)

    pub chaining_end : (i : ℕ) {at : ℕ} {e : List ℕ} → length run ≤ i → length run ≤ most_actions → chain_room ≤ length room → Chaining i at e
        → Puts (chain_bytes 0 run) at room e
    chaining_end i {at} {e} h short long c =
        placed_at_start (subst (λ (l : List ℕ). Placed 0 room (chain_bytes 0 l) at e) (take_all i run h) c) (omega (arith, chain_length 0 run))

-- S, A and T of a chain that two bytes hold
pub head_is : (A n : ℕ) → n ≤ most_actions → (n + 1) ∷ A ∷ n ∷ 0 ∷ [] ≡ chain_head A n
head_is A n h =
    let more : n + 1 ≡ suc n = omega arith in
    let low : n ≡ n % 256 = omega arith in
    let high : 0 ≡ n / 256 % 256 = omega arith in
    λ i. more i ∷ A ∷ low i ∷ high i ∷ []

module _ (s run bytes : List ℕ) (j : Judgeable s run bytes) where
  accepted : WellFormedSheet s
  accepted = (accepted_iff s).0 j.passed

  pub sizes : BodyLengths (plan_body s) (actions_body s) (rule_body s)
  sizes = body_lengths accepted.bodies_kept

  pub bytes_short : length bytes ≤ chain_room
  bytes_short = omega (arith, ap length j.bytes_are, chain_length 0 run, j.kept.short)

  -- the sheet of the chain as five texts
  module _ {start plan actions rule : List ℕ} (d : actions ≡ actions_body s) (e : rule ≡ rule_body s)
      (f : start ≡ head (4 + length bytes) (length actions) (length rule)) (g : plan ≡ chain_head (action_count (plan_body s)) (length run)) where
    whole : start ++ plan ++ bytes ++ actions ++ rule ≡ chain_sheet s run
    unfolding chain_sheet sheet.sheet_of
    whole =
        let size : 4 + length bytes ≡ length (chain_body (action_count (plan_body s)) run) = omega (arith, ap length j.bytes_are) in
        append_assoc (start ++ plan ++ bytes) actions rule ∙ ap (λ (l : List ℕ). l ++ (actions ++ rule)) (append_assoc start plan bytes)
        ∙ append_assoc start (plan ++ bytes) (actions ++ rule)
        ∙ (λ i. f i ++ (g i ++ j.bytes_are i ++ (actions ++ rule)))
        ∙ (λ i. head (size i) (length (d i)) (length (e i)) ++ (chain_body (action_count (plan_body s)) run ++ (d i ++ e i)))

    pub five_put : (room : List ℕ) → chain_sheet_room ≤ length room
        → {a b c m n : ℕ} {v w x y z : List ℕ} → (a ≡ place_after start 0 room) × (v ≡ buffer_after start 0 room)
        → (b ≡ place_after plan a v) × (w ≡ buffer_after plan a v) → (c ≡ place_after bytes b w) × (x ≡ buffer_after bytes b w)
        → (m ≡ place_after actions c x) × (y ≡ buffer_after actions c x) → (n ≡ place_after rule m y) × (z ≡ buffer_after rule m y)
        → Puts (chain_sheet s run) n room z
    five_put room long {n = n} {z = z} one two three four five =
        placed_at_start
        (subst (λ (text : List ℕ). Placed 0 room text n z) whole
        (placed_next rule (placed_next actions (placed_next bytes (placed_next plan (placed_one one) two) three) four) five))
        (omega (arith, chain_sheet_length s accepted run j.kept, long))
