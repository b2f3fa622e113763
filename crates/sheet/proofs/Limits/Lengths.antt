-- How long an accepted sheet is, and that there is one of 26 bytes. One of 6,455 bytes is in Longest.antt.
use Prim.Native.Nat.{ℕ, ◌≤◌}
use mathlib.Core.Path.{◌≡◌, refl}
use mathlib.Core.List.{List, [], ◌∷◌}
use native.Mathlib.Omega.{arith}
use lib.ListN.{length}
use Rattle.sheet.specs.Bytes.{lowest_from}
use Rattle.sheet.specs.Contents.{heading_right, contents_right, entry_is}
use Rattle.sheet.specs.Plan.{plan_sized, transition_faulty}
use Rattle.sheet.specs.Actions.{actions_sized, entry_faulty, entry_right}
use Rattle.sheet.specs.Rule.{rule_sized, extent, binding_faulty}
use Rattle.sheet.specs.Reading.{plan_check, actions_check, rule_check, bodies_check, sheet_check}
use Rattle.sheet.specs.Writing.{sheet_of}
use Rattle.sheet.specs.RunningCalls.{AllBytes}
use Rattle.sheet.specs.Lengths.{AcceptedOf}
use Rattle.std.specs.Prelude.{Ok}
use Rattle.sheet.proofs.Acceptance.Sheet.{accepted_iff, kept_lengths}
use Rattle.sheet.proofs.Limits.ByteLists.{bytes_nil, bytes_cons, written_bytes}

pub accepted_lengths : (s : List ℕ) → sheet_check s ≡ Ok tt → (26 ≤ length s) × (length s ≤ 6455)
accepted_lengths s q = kept_lengths s ((accepted_iff s).0 q)

-- one state, no action and no transition; no action entry; the rule F
unfoldable pub smallest : List ℕ
smallest = sheet_of (1 ∷ 0 ∷ 0 ∷ 0 ∷ []) (0 ∷ []) (1 ∷ 0 ∷ 0 ∷ 0 ∷ [])

smallest_bytes : AllBytes smallest
unfolding smallest
smallest_bytes =
    written_bytes (1 ∷ 0 ∷ 0 ∷ 0 ∷ []) (0 ∷ []) (1 ∷ 0 ∷ 0 ∷ 0 ∷ [])
    (bytes_cons (omega arith) (bytes_cons (omega arith) (bytes_cons (omega arith) (bytes_cons (omega arith) bytes_nil))))
    (bytes_cons (omega arith) bytes_nil)
    (bytes_cons (omega arith) (bytes_cons (omega arith) (bytes_cons (omega arith) (bytes_cons (omega arith) bytes_nil))))

pub smallest_accepted : AcceptedOf 26
unfolding smallest sheet_of sheet_check heading_right contents_right entry_is bodies_check plan_check plan_sized transition_faulty lowest_from
    actions_check actions_sized entry_faulty entry_right rule_check rule_sized extent binding_faulty
smallest_accepted = record { sheet = smallest; bytes = smallest_bytes; size = refl; passed = refl }
