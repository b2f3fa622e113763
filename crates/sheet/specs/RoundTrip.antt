-- Sheet and bodies turn into each other without change, said of what the calls of `read` and `write` answer and leave. Shown by
-- round_trip of proofs/Roundtrip/Promises.antt.
use Rattle.std.specs.Prelude.{ℕ, ◌+◌, ◌≤◌, ◌≡◌, List, length, take, drop, Result, Ok}
use Rattle.sheet.specs.Bytes.{slice}
use Rattle.sheet.specs.RunningCalls.{Reads, Writes}
use Rattle.sheet.specs.declared.Span.{Span}
use Rattle.sheet.specs.declared.Bodies.{Bodies}
use Rattle.sheet.specs.declared.Refusal.{Refusal}

-- "The reader gives each body's offset and length.": the bytes of a sheet at such an offset, so many
abbrev pub bytes_of : List ℕ → Span → List ℕ
bytes_of s b = slice s b.offset b.length

-- "The first body starts at 17, each next one where the one before ends"
abbrev pub spans_of : List ℕ → List ℕ → List ℕ → Bodies
spans_of p a r = record {
  plan = record { offset = 17; length = length p };
  actions = record { offset = 17 + length p; length = length a };
  rule = record { offset = 17 + length p + length a; length = length r };
}

-- `read` of the sheet s, which was written of the bodies p, a, r, answered so
pub record ReadBack (p a r s : List ℕ) (answer : Result Bodies Refusal) : Type 0 where
  pub bodies : Bodies
  pub accepted : answer ≡ Ok bodies
  pub placed : bodies ≡ spans_of p a r
  -- the three bodies, byte for byte
  pub plan_back : bytes_of s bodies.plan ≡ p
  pub actions_back : bytes_of s bodies.actions ≡ a
  pub rule_back : bytes_of s bodies.rule ≡ r

-- `write` of the bodies that were read from the sheet s answered so, and left out' where out had been
pub record WrittenBack (s out : List ℕ) (answer : Result ℕ Refusal) (out' : List ℕ) : Type 0 where
  -- "gives the length"
  pub wrote : answer ≡ Ok (length s)
  -- the sheet, byte for byte
  pub sheet_back : take (length s) out' ≡ s
  -- "bytes past it are unchanged"
  pub rest_kept : drop (length s) out' ≡ drop (length s) out

-- demand 2's second sentence, "sheet and bodies turn into each other without change"
pub record RoundTrip : Type 0 where
  -- every call of `write` that answered a length n and left out', and every call of `read` on the first n bytes of out'
  pub bodies_back :
      (p a r out : List ℕ) (n : ℕ) (out' : List ℕ) → Writes p a r out (Ok n) out'
      → (answer : Result Bodies Refusal) → Reads (take n out') answer → ReadBack p a r (take n out') answer
  -- every call of `read` that accepted a sheet s and answered b, and every call of `write` on the bodies that b tells of, with an output
  -- that has room for them
  pub sheet_back :
      (s : List ℕ) (b : Bodies) → Reads s (Ok b) → (out : List ℕ) (answer : Result ℕ Refusal) (out' : List ℕ)
      → Writes (bytes_of s b.plan) (bytes_of s b.actions) (bytes_of s b.rule) out answer out'
      → length s ≤ length out → WrittenBack s out answer out'
