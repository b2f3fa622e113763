-- What the contracts of `read` and `write` promise of one call. The theorems of the running calls (Acceptance, AnsweredCalls, RefusalOrder,
-- RoundTrip) speak of every call that keeps its promise.
use Rattle.std.specs.Prelude.{ℕ, ◌<◌, ◌≡◌, List, length, Result}
use Rattle.sheet.specs.Bytes.{byte}
use Rattle.sheet.specs.Reading.{read_of, reported_read, read_report_of}
use Rattle.sheet.specs.Writing.{written_of, reported_write, write_report_of, output_after}
use Rattle.sheet.specs.declared.Bodies.{Bodies}
use Rattle.sheet.specs.declared.Refusal.{Refusal}

-- every number of the list is a byte
pub record AllBytes (l : List ℕ) : Type 0 where
  pub at : (k : ℕ) → byte l k < 256

-- `read` on the sheet s answered r: the clauses of its contract. The numbers of a lent slice are bytes.
abbrev pub Reads : List ℕ → (Result Bodies Refusal) → Type 0
Reads s r = (r ≡ read_of s) × ((reported_read r ≡ read_report_of s) × AllBytes s)

-- `write` of the bodies p, a, r to the output out answered w and left out': the clauses of its contract
abbrev pub Writes : List ℕ → List ℕ → List ℕ → List ℕ → (Result ℕ Refusal) → List ℕ → Type 0
Writes p a r out w out' =
    (w ≡ written_of p a r (length out)) × ((reported_write w ≡ write_report_of p a r (length out)) × (out' ≡ output_after p a r out))
