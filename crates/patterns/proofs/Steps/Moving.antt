-- A node of the rule, moved behind the nodes and binders that are made, by its kind.
use Prim.Native.Nat.{ℕ, ◌+◌, ◌<◌, ◌≤◌}
use mathlib.Core.Path.{◌≡◌}
use native.Mathlib.Omega.{arith}
use borrow.Author.Tests.{lt-ltb, le-ltb, eq-eqb, ne_eqb}
use Rattle.sheet.specs.declared.Fields.{Fields}
use Rattle.patterns.specs.Internal.Nodes.{moved}

module _ (n b : ℕ) (f : Fields) where
  pub moved_leaf : f.kind < 2 → moved n b f ≡ f
  unfolding moved
  moved_leaf h = simp (lt-ltb f.kind 2 h)

  pub moved_pair : 2 ≤ f.kind → f.kind < 4 → moved n b f ≡ record { kind = f.kind; x = f.x + n; y = f.y + n }
  unfolding moved
  moved_pair h l = simp (le-ltb f.kind 2 h, lt-ltb f.kind 4 l)

  pub moved_modal : 4 ≤ f.kind → f.kind < 6 → moved n b f ≡ record { kind = f.kind; x = f.x; y = f.y + n }
  unfolding moved
  moved_modal h l = simp (le-ltb f.kind 2 (omega arith), le-ltb f.kind 4 h, lt-ltb f.kind 6 l)

  pub moved_variable : f.kind ≡ 6 → moved n b f ≡ record { kind = f.kind; x = f.x + b; y = f.y }
  unfolding moved
  moved_variable h = simp (le-ltb f.kind 2 (omega arith), le-ltb f.kind 4 (omega arith), le-ltb f.kind 6 (omega arith), eq-eqb f.kind 6 h)

  pub moved_binder : 6 < f.kind → moved n b f ≡ record { kind = f.kind; x = f.x + b; y = f.y + n }
  unfolding moved
  moved_binder h =
      simp (le-ltb f.kind 2 (omega arith), le-ltb f.kind 4 (omega arith), le-ltb f.kind 6 (omega arith), ne_eqb f.kind 6 (λ q. absurd (omega arith)))
