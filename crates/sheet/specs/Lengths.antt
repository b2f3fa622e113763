-- How long a sheet is. Shown by lengths of proofs/Limits/Longest.antt.
use Rattle.std.specs.Prelude.{ℕ, ◌≤◌, ◌≡◌, List, length, Ok}
use Rattle.sheet.specs.Reading.{sheet_check}
use Rattle.sheet.specs.RunningCalls.{AllBytes}

-- there is an accepted sheet of n bytes
pub record AcceptedOf (n : ℕ) : Type 0 where
  pub sheet : List ℕ
  pub bytes : AllBytes sheet
  pub size : length sheet ≡ n
  pub passed : sheet_check sheet ≡ Ok tt

-- the lengths of accepted sheets
pub record Lengths : Type 0 where
  -- "Smallest sheet: 26 bytes."
  pub smallest_is : AcceptedOf 26
  pub none_smaller : (s : List ℕ) → sheet_check s ≡ Ok tt → 26 ≤ length s
  -- "6,455 bytes (the longest sheet)"
  pub longest_is : AcceptedOf 6455
  pub none_longer : (s : List ℕ) → sheet_check s ≡ Ok tt → length s ≤ 6455
