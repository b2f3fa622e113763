-- Bytes are read as a pattern exactly where they are its bytes, and its entries are below the count.
use Prim.Native.Nat.{ℕ, zero, suc}
use mathlib.Core.Path.{◌≡◌, refl, sym, ◌∙◌, ap}
use mathlib.Core.Bool.{Bool, true, false}
use mathlib.Core.List.{List, [], ◌∷◌, ◌++◌, append_assoc, append-nil}
use native.Mathlib.Omega.{arith}
use lib.Dec.{ltb}
use borrow.Author.Tests.{lt-ltb, ltb-true}
use Rattle.sheet.specs.Bytes.{pick}
use Rattle.sheet.specs.Rule.{one_if}
use Rattle.patterns.specs.Patterns.{
  Pattern,
  action,
  sequence,
  choice,
  repetition,
  written,
  pattern_bytes,
  EntriesBelow,
  Parts,
  broken,
  parts,
  with_action,
  with_two,
  with_one,
  parts_of,
  malformed,
  readable,
  one_part,
  reading_of,
  ReadingsExactly,
}

-- ---- from patterns to bytes

-- a pattern in front of the parts after it
abbrev ahead : Pattern → Parts → Parts
ahead R broken = broken
ahead R (parts Rs) = parts (R ∷ Rs)

action_ahead : (e : ℕ) (P : Parts) → with_action e P ≡ ahead (action e) P
action_ahead e broken = refl
action_ahead e (parts Rs) = refl

two_ahead : (op : Pattern → Pattern → Pattern) (R Q : Pattern) (P : Parts) → with_two op (ahead R (ahead Q P)) ≡ ahead (op R Q) P
two_ahead op R Q broken = refl
two_ahead op R Q (parts Rs) = refl

one_ahead : (op : Pattern → Pattern) (R : Pattern) (P : Parts) → with_one op (ahead R P) ≡ ahead (op R) P
one_ahead op R broken = refl
one_ahead op R (parts Rs) = refl

never : {A : Type 0} (every : Bool) (R : Pattern) → malformed ≡ readable every R → A
never every R e = let z : ◌≡◌ {A = ℕ} 0 1 = cc in absurd (omega arith)

module _ (entries : ℕ) where
  read_written : (R : Pattern) → EntriesBelow entries R → (rest : List ℕ)
      → parts_of entries (written R ++ rest) ≡ ahead R (parts_of entries rest)
  unfolding parts_of written EntriesBelow
  read_written (action e) below rest = rw (lt-ltb e entries below) (action_ahead e (parts_of entries rest))
  read_written (sequence R Q) below rest =
      rw (append_assoc (written R) (written Q) rest, read_written R below.0 (written Q ++ rest), read_written Q below.1 rest)
      (two_ahead sequence R Q (parts_of entries rest))
  read_written (choice R Q) below rest =
      rw (append_assoc (written R) (written Q) rest, read_written R below.0 (written Q ++ rest), read_written Q below.1 rest)
      (two_ahead choice R Q (parts_of entries rest))
  read_written (repetition R) below rest = rw (read_written R below rest) (one_ahead repetition R (parts_of entries rest))

  -- ---- from bytes to patterns

  -- the bytes of patterns one after another, whose entries are below the count
  data Written : List Pattern → List ℕ → Type 0 where
    none : Written [] []
    more : {R : Pattern} {Rs : List Pattern} {rest bytes : List ℕ} → EntriesBelow entries R → Written Rs rest
        → bytes ≡ written R ++ rest → Written (R ∷ Rs) bytes

  -- what parts_of says of bytes
  abbrev Holding : List ℕ → Parts → Type 0
  Holding bytes broken = Unit {0}
  Holding bytes (parts Rs) = Written Rs bytes

  action_held : (e : ℕ) (bytes : List ℕ) (P : Parts) → Holding bytes P → (b : Bool) → ltb e entries ≡ b
      → Holding (0 ∷ e ∷ bytes) (pick b (with_action e P) broken)
  unfolding written EntriesBelow
  action_held e bytes broken w true below = tt
  action_held e bytes (parts Rs) w true below = more {R = action e} (ltb-true e entries below) w refl
  action_held e bytes P w false high = tt

  two_held : (b : ℕ) (op : Pattern → Pattern → Pattern) → ((R Q : Pattern) → written (op R Q) ≡ b ∷ (written R ++ written Q))
      → ((R Q : Pattern) → EntriesBelow entries R → EntriesBelow entries Q → EntriesBelow entries (op R Q))
      → (bytes : List ℕ) (P : Parts) → Holding bytes P → Holding (b ∷ bytes) (with_two op P)
  two_held b op w below bytes broken h = tt
  two_held b op w below bytes (parts []) h = tt
  two_held b op w below bytes (parts (R ∷ [])) h = tt
  two_held b op w below bytes (parts (R ∷ Q ∷ Rs)) (more k (more {rest = rest} l h e) f) =
      more {bytes = b ∷ bytes} (below R Q k l) h
      (rw (f, e, w R Q) (ap (λ (x : List ℕ). b ∷ x) (sym (append_assoc (written R) (written Q) rest))))

  one_held : (bytes : List ℕ) (P : Parts) → Holding bytes P → Holding (3 ∷ bytes) (with_one repetition P)
  unfolding written EntriesBelow
  one_held bytes broken h = tt
  one_held bytes (parts []) h = tt
  one_held bytes (parts (R ∷ Rs)) (more k h e) = more {R = repetition R} k h (ap (λ (x : List ℕ). 3 ∷ x) e)

  parts_held : (bytes : List ℕ) → Holding bytes (parts_of entries bytes)
  unfolding parts_of written EntriesBelow
  parts_held [] = none
  parts_held (zero ∷ []) = tt
  parts_held (zero ∷ e ∷ bytes) = action_held e bytes (parts_of entries bytes) (parts_held bytes) (ltb e entries) refl
  parts_held (suc zero ∷ bytes) = two_held 1 sequence (λ R Q. refl) (λ R Q k l. (k, l)) bytes (parts_of entries bytes) (parts_held bytes)
  parts_held (suc (suc zero) ∷ bytes) = two_held 2 choice (λ R Q. refl) (λ R Q k l. (k, l)) bytes (parts_of entries bytes) (parts_held bytes)
  parts_held (suc (suc (suc zero)) ∷ bytes) = one_held bytes (parts_of entries bytes) (parts_held bytes)
  parts_held (suc (suc (suc (suc b))) ∷ bytes) = tt

  -- ---- the whole

  abbrev Read : List ℕ → Bool → Pattern → Type 0
  Read bytes every R = (bytes ≡ pattern_bytes every R) × EntriesBelow entries R

  whole_held : (b : Bool) (bytes : List ℕ) (P : Parts) → Holding bytes P → (every : Bool) (R : Pattern) → one_part b P ≡ readable every R
      → Read (one_if b ∷ bytes) every R
  whole_held b bytes broken h every R e = never every R e
  whole_held b bytes (parts []) h every R e = never every R e
  whole_held b bytes (parts (Q ∷ [])) (more k none f) every R e =
      let same : b ≡ every = cc in
      let same-pattern : Q ≡ R = cc in
      rw (← same, ← same-pattern) (ap (λ (l : List ℕ). one_if b ∷ l) (f ∙ append-nil (written Q)), k)
  whole_held b bytes (parts (Q ∷ Q' ∷ Rs)) h every R e = never every R e

  bytes_read : (bytes : List ℕ) (every : Bool) (R : Pattern) → reading_of entries bytes ≡ readable every R → Read bytes every R
  unfolding reading_of
  bytes_read [] every R e = never every R e
  bytes_read (zero ∷ bytes) every R e = whole_held false bytes (parts_of entries bytes) (parts_held bytes) every R e
  bytes_read (suc zero ∷ bytes) every R e = whole_held true bytes (parts_of entries bytes) (parts_held bytes) every R e
  bytes_read (suc (suc b) ∷ bytes) every R e = never every R e

  written_one : (R : Pattern) → EntriesBelow entries R → parts_of entries (written R) ≡ parts (R ∷ [])
  unfolding parts_of
  written_one R below = rw (← append-nil (written R)) (read_written R below [])

  read_bytes_lem : (every : Bool) (R : Pattern) → EntriesBelow entries R → reading_of entries (pattern_bytes every R) ≡ readable every R
  unfolding reading_of
  read_bytes_lem true R below = rw (written_one R below)
  read_bytes_lem false R below = rw (written_one R below)

pub readings_exactly : ReadingsExactly
readings_exactly entries bytes every R = (
  bytes_read entries bytes every R,
  λ h. rw h.0 (read_bytes_lem entries every R h.1),
)
