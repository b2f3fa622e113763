-- The order of transitions by (from, action, to) is the order of their keys, and what the loops over transitions show by it.
use Prim.Native.Nat.{ℕ, zero, suc, ◌+◌, ◌*◌, ◌<◌, ◌≤◌}
use mathlib.Core.Path.{◌≡◌, refl, sym, ap, ◌∙◌}
use mathlib.Core.Bool.{Bool, true, false, not, ◌&&◌}
use mathlib.Core.List.{List}
use Rattle.std.specs.Prelude.{Some, None}
use native.Mathlib.Omega.{arith}
use native.Mathlib.Decide.{dec_lt}
use lib.Dec.{ltb, leb}
use borrow.Author.Tests.{lt-ltb, le-ltb, le-leb, lt-leb, leb-true, eq-eqb, ne_eqb, not-false}
use native.Mathlib.Numerals.{add-one}
use Rattle.sheet.specs.Bytes.{byte, pick}
use Rattle.sheet.specs.Plan.{state_count, action_count, transition_count, origin, label, target, before, rises, transition_faulty, lowest_transition}
use Rattle.sheet.specs.Internal.Order.{key, key_at, floor_at, faulty_elsewhere, step_at}
use Rattle.sheet.proofs.Checks.Checks.{and_parts}
use Rattle.sheet.proofs.Checks.Seeking.{Seeking, seek_start, seek_next, seek_end}

-- three cases of two numbers
compared : {X : Type 0} (a b : ℕ) → (a < b → X) → (a ≡ b → X) → (b < a → X) → X
compared a b l e g = elim (dec_lt a b) [ yes h ↦ l h | no h ↦ elim (dec_lt b a) [ yes k ↦ g k | no k ↦ e (omega arith) ] ]

before_key : (f a t f' a' t' : ℕ) → a < 256 → t < 256 → a' < 256 → t' < 256 → before f a t f' a' t' ≡ ltb (key f a t) (key f' a' t')
before_key f a t f' a' t' ha ht ha' ht' =
    compared f f'
    (λ l. simp (lt-ltb f f' l, lt-ltb (key f a t) (key f' a' t') (omega arith)))
    (λ e. simp (le-ltb f f' (omega arith), eq-eqb f f' e)
    (compared a a'
    (λ m. simp (lt-ltb a a' m, lt-ltb (key f a t) (key f' a' t') (omega arith)))
    (λ m. simp (le-ltb a a' (omega arith), eq-eqb a a' m)
    (compared t t' (λ n. simp (lt-ltb t t' n, lt-ltb (key f a t) (key f' a' t') (omega arith)))
    (λ n. simp (le-ltb t t' (omega arith), le-ltb (key f a t) (key f' a' t') (omega arith)))
    (λ n. simp (le-ltb t t' (omega arith), le-ltb (key f a t) (key f' a' t') (omega arith)))))
    (λ m. simp (le-ltb a a' (omega arith), ne_eqb a a' (λ q. omega arith), le-ltb (key f a t) (key f' a' t') (omega arith)))))
    (λ g. simp (le-ltb f f' (omega arith), ne_eqb f f' (λ q. omega arith), le-ltb (key f a t) (key f' a' t') (omega arith)))

module _ (p : List ℕ) (i : ℕ) where
  faulty_origin : state_count p ≤ origin p i → transition_faulty p i ≡ true
  unfolding transition_faulty
  faulty_origin h = simp (le-ltb _ _ h)

  fine_origin : origin p i < state_count p → faulty_elsewhere p i ≡ transition_faulty p i
  unfolding transition_faulty faulty_elsewhere
  fine_origin h = simp (lt-ltb _ _ h)

  pub faulty_label : action_count p ≤ label p i → faulty_elsewhere p i ≡ true
  unfolding faulty_elsewhere
  faulty_label h = simp (le-ltb _ _ h)

  pub faulty_target : label p i < action_count p → state_count p ≤ target p i → faulty_elsewhere p i ≡ true
  unfolding faulty_elsewhere
  faulty_target h k = simp (lt-ltb _ _ h, le-ltb _ _ k)

  -- what is faulty elsewhere is faulty
  faulty_lem : faulty_elsewhere p i ≡ true → transition_faulty p i ≡ true
  faulty_lem e =
      elim (dec_lt (origin p i) (state_count p)) [ yes h ↦ sym (fine_origin h) ∙ e | no h ↦ faulty_origin (omega arith) ]

  in_range_lem : label p i < action_count p → target p i < state_count p → faulty_elsewhere p i ≡ not (rises p i)
  unfolding faulty_elsewhere
  in_range_lem h k = simp (lt-ltb _ _ h, lt-ltb _ _ k)

module _ (faulty : List ℕ → ℕ → Bool) (p : List ℕ) (i : ℕ) where
  pub step_faulty : faulty p i ≡ true → None ≡ step_at faulty p i
  unfolding step_at
  step_faulty e = rw e

  pub step_fine : faulty p i ≡ false → Some (key_at p i + 1) ≡ step_at faulty p i
  unfolding step_at
  step_fine e = rw e

  -- a step that gives a number: the transition is fine, and it is the floor of the next
  pub stepped : (x : ℕ) → Some x ≡ step_at faulty p i → (faulty p i ≡ false) × (x ≡ key_at p i + 1)
  unfolding step_at
  stepped x s = go (faulty p i) s
    where
      go : (b : Bool) → Some x ≡ pick b None (Some (key_at p i + 1)) → (b ≡ false) × (x ≡ key_at p i + 1)
      go true e = absurd (let z : ◌≡◌ {A = ℕ} 0 1 = cc in omega arith)
      go false e = (refl, cc)

  pub stopped : None ≡ step_at faulty p i → faulty p i ≡ true
  unfolding step_at
  stopped s = go (faulty p i) s
    where
      go : (b : Bool) → None ≡ pick b None (Some (key_at p i + 1)) → b ≡ true
      go true e = refl
      go false e = absurd (let z : ◌≡◌ {A = ℕ} 0 1 = cc in omega arith)

  pub next_floor : (x : ℕ) → Some x ≡ step_at faulty p i → x ≡ floor_at p (i + 1)
  unfolding floor_at
  next_floor x s = rw add-one ((stepped x s).1)

module _ (p : List ℕ) (bytes : (k : ℕ) → byte p k < 256) where
  rises_floor : (i : ℕ) → rises p i ≡ leb (floor_at p i) (key_at p i)
  unfolding floor_at
  rises_floor zero = sym (le-leb 0 (key_at p 0) (omega arith))
  rises_floor (suc i) =
      before_key (origin p i) (label p i) (target p i) (origin p (suc i)) (label p (suc i)) (target p (suc i)) (bytes (5 + 3 * i)) (bytes (6 + 3 * i)) (bytes (5 + 3 * suc i)) (bytes (6 + 3 * suc i)) ∙
      compared (key_at p i) (key_at p (suc i))
      (λ h. lt-ltb (key_at p i) (key_at p (suc i)) h ∙ sym (le-leb (key_at p i + 1) (key_at p (suc i)) (omega arith)))
      (λ h. le-ltb (key_at p i) (key_at p (suc i)) (omega arith) ∙ sym (lt-leb (key_at p i + 1) (key_at p (suc i)) (omega arith)))
      (λ h. le-ltb (key_at p i) (key_at p (suc i)) (omega arith) ∙ sym (lt-leb (key_at p i + 1) (key_at p (suc i)) (omega arith)))

  pub faulty_low : (i : ℕ) → label p i < action_count p → target p i < state_count p → key_at p i < floor_at p i → faulty_elsewhere p i ≡ true
  faulty_low i h k m = rw (in_range_lem p i h k, rises_floor i, lt-leb (floor_at p i) (key_at p i) m)

  pub fine_elsewhere : (i : ℕ) → label p i < action_count p → target p i < state_count p → floor_at p i ≤ key_at p i → faulty_elsewhere p i ≡ false
  fine_elsewhere i h k m = rw (in_range_lem p i h k, rises_floor i, le-leb (floor_at p i) (key_at p i) m)

  above_floor : (i : ℕ) → faulty_elsewhere p i ≡ false → floor_at p i ≤ key_at p i
  unfolding faulty_elsewhere
  above_floor i e = leb-true _ _ (sym (rises_floor i) ∙ (and_parts (ltb (label p i) (action_count p) && ltb (target p i) (state_count p)) (rises p i) (not-false _ e)).1)

pub step_none_lem : (p : List ℕ) (i : ℕ) → None ≡ step_at faulty_elsewhere p i → None ≡ step_at transition_faulty p i
step_none_lem p i s = step_faulty transition_faulty p i (faulty_lem p i (stopped faulty_elsewhere p i s))

-- an origin is below S exactly where the key is below that of (S, 0, 0), that is where the next floor is at most that key
module _ (p : List ℕ) (i x : ℕ) (s : Some x ≡ step_at faulty_elsewhere p i) where
  pub step_within_lem : x ≤ key (state_count p) 0 0 → Some x ≡ step_at transition_faulty p i
  step_within_lem low =
      let told = stepped faulty_elsewhere p i x s in
      let below : origin p i < state_count p = omega arith in
      ap Some told.1 ∙ step_fine transition_faulty p i (sym (fine_origin p i below) ∙ told.0)

  pub step_beyond : ((k : ℕ) → byte p k < 256) → key (state_count p) 0 0 < x → None ≡ step_at transition_faulty p i
  step_beyond bytes high =
      let told = stepped faulty_elsewhere p i x s in
      step_faulty transition_faulty p i (faulty_origin p i (omega (arith, bytes (5 + 3 * i), bytes (6 + 3 * i))))

-- what a loop holds that leaves origins aside: no transition below i is faulty, if the floor is at most the key of (S, 0, 0)
pub record Climbing (p : List ℕ) (floor i : ℕ) : Type 0 where
  pub bytes : (k : ℕ) → byte p k < 256
  pub floor_is : floor ≡ floor_at p i
  pub fine : floor ≤ key (state_count p) 0 0 → Seeking (transition_faulty p) (transition_count p) (lowest_transition p) i

pub climb_start : (p : List ℕ) → ((k : ℕ) → byte p k < 256) → Climbing p 0 0
unfolding floor_at
climb_start p bytes = record { bytes = bytes; floor_is = refl; fine = λ _. seek_start _ _ _ refl }

module _ {p : List ℕ} {floor i : ℕ} (c : Climbing p floor i) where
  pub climb_next : (x : ℕ) → i < transition_count p → Some x ≡ step_at faulty_elsewhere p i → Climbing p x (i + 1)
  climb_next x h s =
      let told = stepped faulty_elsewhere p i x s in
      record {
        bytes = c.bytes;
        floor_is = next_floor faulty_elsewhere p i x s;
        fine = λ low.
            seek_next (c.fine (omega (arith, above_floor p c.bytes i told.0))) h
            ((stepped transition_faulty p i x (step_within_lem p i x s low)).0);
      }

  pub climb_end : transition_count p ≤ i → floor ≤ key (state_count p) 0 0 → lowest_transition p ≡ transition_count p
  climb_end h low = let s = c.fine low in omega (arith, seek_end s h)
