-- `sheet::kinds::child_count` meets its contract.
use mathlib.Core.Path.{sym}
use native.Mathlib.Omega.{arith}
use Rattle.sheet.proofs.Nodes.Arity.{count_leaf, count_pair, count_modal, count_variable, count_binder, count_unknown}
use Rattle.sheet.proofs.kinds.child_count.Goals as goal

pub returns-then-kind-lt2 : goal.returns-then-kind-lt2
returns-then-kind-lt2 c = sym (count_leaf c.args.kind (omega arith))

pub returns-then-kind-lt4 : goal.returns-then-kind-lt4
returns-then-kind-lt4 c = sym (count_pair c.args.kind (omega arith) (omega arith))

pub returns-then-kind-lt6 : goal.returns-then-kind-lt6
returns-then-kind-lt6 c = sym (count_modal c.args.kind (omega arith) (omega arith))

pub returns-then-kind-lt7 : goal.returns-then-kind-lt7
returns-then-kind-lt7 c = sym (count_variable c.args.kind (omega arith))

pub returns-then-kind-lt9 : goal.returns-then-kind-lt9
returns-then-kind-lt9 c = sym (count_binder c.args.kind (omega arith) (omega arith))

pub returns-else-kind-lt9 : goal.returns-else-kind-lt9
returns-else-kind-lt9 c = sym (count_unknown c.args.kind (omega arith))
