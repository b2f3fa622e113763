-- Whether what is read of a number is a sequence, as the code compares it.
use Rattle.std.proofs.Common.{ℕ, ◌≡◌, sym, Bool, true, false, Result, Ok, Err, arith}
use Rattle.std.specs.Result.{result_eq}
use mathlib.Core.Bool.{false≢true}
use Rattle.sheet.specs.declared.kinds.UnknownKind.{UnknownKind}
use Rattle.sheet.specs.contracts.kinds.UnknownKindPartialEq.TheImpl as UnknownEq
use Rattle.patterns.specs.Internal.PartKinds.{ReadsPartKind}
use Rattle.patterns.specs.declared.parts.PartKind.{PartKind}
use Rattle.patterns.specs.declared.parts.PartKind.TheVariants as Kind
use Rattle.patterns.specs.contracts.parts.PartKindPartialEq.TheImpl as PartEq

abbrev is_sequence : Result PartKind UnknownKind → Bool
is_sequence r = result_eq PartEq.eq-value.it UnknownEq.eq-value.it r (Ok Kind.Sequence)

pub sequence_read : (k : ℕ) (r : Result PartKind UnknownKind) → ReadsPartKind k r → true ≡ is_sequence r → k ≡ 1
sequence_read k (Ok Kind.Entry) h e = absurd (false≢true (sym e))
sequence_read k (Ok Kind.Sequence) h e = sym h
sequence_read k (Ok Kind.Choice) h e = absurd (false≢true (sym e))
sequence_read k (Ok Kind.Repetition) h e = absurd (false≢true (sym e))
sequence_read k (Err x) h e = absurd (false≢true (sym e))

pub other_read : (k : ℕ) (r : Result PartKind UnknownKind) → ReadsPartKind k r → false ≡ is_sequence r → k ≡ 1 → ⊥
other_read k (Ok Kind.Entry) h e q = absurd (omega arith)
other_read k (Ok Kind.Sequence) h e q = false≢true e
other_read k (Ok Kind.Choice) h e q = absurd (omega arith)
other_read k (Ok Kind.Repetition) h e q = absurd (omega arith)
other_read k (Err x) h e q = absurd (omega arith)
