-- Document 01, "Kind 1, plan": a labelled transition system. "States that nothing leads to are allowed": no rule speaks of them. The
-- definitions speak of the body's bytes.
use Rattle.std.specs.Prelude.{ℕ, zero, suc, ◌+◌, ◌*◌, Bool, true, not, ◌&&◌, ◌||◌, List, length, eqb, ltb, leb}
use Rattle.sheet.specs.Bytes.{byte, word, lowest}

-- "S (1 byte, 1 to 128 states)"
abbrev pub state_count : List ℕ → ℕ
state_count p = byte p 0

-- "A (1 byte, 0 to 255 actions)"
abbrev pub action_count : List ℕ → ℕ
action_count p = byte p 1

-- "T (16 bits, 0 to 2,048)"
abbrev pub transition_count : List ℕ → ℕ
transition_count p = word p 2

-- "then T transitions of three bytes: from, action, to": the state that transition i leads from
abbrev pub origin : List ℕ → ℕ → ℕ
origin p i = byte p (4 + 3 * i)

-- its action
abbrev pub label : List ℕ → ℕ → ℕ
label p i = byte p (5 + 3 * i)

-- the state that it leads to
abbrev pub target : List ℕ → ℕ → ℕ
target p i = byte p (6 + 3 * i)

-- refusal 4: "plan shorter than 4 bytes, S or T outside its limits, or length not 4 + 3 × T"
unfoldable pub plan_sized : List ℕ → Bool
plan_sized p =
    leb 4 (length p) &&
    (leb 1 (state_count p) &&
    (leb (state_count p) 128 && (leb (transition_count p) 2048 && eqb (length p) (4 + 3 * transition_count p))))

-- (f, a, t) comes before (f', a', t') in the order by origin, then action, then target
abbrev pub before : ℕ → ℕ → ℕ → ℕ → ℕ → ℕ → Bool
before f a t f' a' t' = ltb f f' || (eqb f f' && (ltb a a' || (eqb a a' && ltb t t')))

-- "Transitions rise strictly by (from, action, to)": transition i is above the one before it, and the first has none before it
abbrev pub rises : List ℕ → ℕ → Bool
rises p zero = true
rises p (suc i) = before (origin p i) (label p i) (target p i) (origin p (suc i)) (label p (suc i)) (target p (suc i))

-- "States are 0 to S - 1, actions 0 to A - 1."
abbrev pub in_range : List ℕ → ℕ → Bool
in_range p i = ltb (origin p i) (state_count p) && (ltb (label p i) (action_count p) && ltb (target p i) (state_count p))

-- refusal 5: "a state or action out of range, or one that isn't above the one before it"
unfoldable pub transition_faulty : List ℕ → ℕ → Bool
transition_faulty p i = not (in_range p i && rises p i)

-- the place of refusal 5, "the lowest faulty transition"; T where there is none
abbrev pub lowest_transition : List ℕ → ℕ
lowest_transition p = lowest (transition_faulty p) (transition_count p)
