-- Lists of bytes below 256.
use Prim.Native.Nat.{ℕ, zero, suc, ◌+◌, ◌<◌}
use mathlib.Core.List.{List, [], ◌∷◌, ◌++◌}
use native.Mathlib.Omega.{arith}
use lib.ListN.{length}
use Rattle.sheet.specs.Bytes.{byte}
use Rattle.sheet.specs.Contents.{head_length}
use Rattle.sheet.specs.Writing.{contents_entry, head, sheet_of}
use Rattle.sheet.specs.RunningCalls.{AllBytes}

pub bytes_nil : AllBytes []
bytes_nil = record { at = λ k. omega arith }

pub bytes_cons : {x : ℕ} {l : List ℕ} → x < 256 → AllBytes l → AllBytes (x ∷ l)
bytes_cons {x} {l} h b = record { at = go }
  where
    go : (k : ℕ) → byte (x ∷ l) k < 256
    go zero = h
    go (suc k) = b.at k

bytes_append : (a b : List ℕ) → AllBytes a → AllBytes b → AllBytes (a ++ b)
bytes_append [] b f g = g
bytes_append (x ∷ a) b f g = bytes_cons (f.at 0) (bytes_append a b (record { at = λ k. f.at (suc k) }) g)

-- the writer makes bytes of bytes
bytes_entry : (kind offset size : ℕ) (l : List ℕ) → kind < 256 → AllBytes l → AllBytes (contents_entry kind offset size l)
bytes_entry kind offset size l h b =
    bytes_cons h (bytes_cons (omega arith) (bytes_cons (omega arith) (bytes_cons (omega arith) (bytes_cons (omega arith) b))))

pub written_bytes : (p a r : List ℕ) → AllBytes p → AllBytes a → AllBytes r → AllBytes (sheet_of p a r)
unfolding sheet_of
written_bytes p a r bp ba br =
    bytes_append (head (length p) (length a) (length r)) (p ++ (a ++ r))
    (bytes_cons (omega arith) (bytes_cons (omega arith)
    (bytes_entry 1 head_length (length p) _ (omega arith)
    (bytes_entry 2 (head_length + length p) (length a) _ (omega arith)
    (bytes_entry 3 (head_length + length p + length a) (length r) [] (omega arith) bytes_nil)))))
    (bytes_append p (a ++ r) bp (bytes_append a r ba br))
