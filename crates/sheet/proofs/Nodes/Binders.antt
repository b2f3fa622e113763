-- The binders of a rule: each has its own number, and the node that is looked up by a number is the binder that has it.
use Prim.Native.Nat.{ℕ, zero, suc, ◌+◌, ◌<◌, ◌≤◌}
use mathlib.Core.Path.{◌≡◌, refl, sym, ap, ◌∙◌}
use mathlib.Core.Bool.{Bool, true, false, ◌&&◌, false≢true}
use mathlib.Core.List.{List}
use native.Mathlib.Omega.{arith}
use native.Mathlib.Decide.{dec_lt}
use lib.Dec.{eqb, ltb, leb}
use borrow.Author.Tests.{lt-ltb, le-leb, eq-eqb, ltb-true, leb-true, eqb-true}
use Rattle.sheet.specs.Rule.{node_count, node_kind, is_binder, one_if, binders_before, binder_node}
use Rattle.sheet.specs.WellFormed.{Binds}
use Rattle.sheet.proofs.Checks.Lowest.{lowest_below, lowest_found}
use Rattle.sheet.proofs.Checks.Checks.{and_parts, all}

module _ (r : List ℕ) where
  pub binder_kind : (n : ℕ) → is_binder r n ≡ true → (7 ≤ node_kind r n) × (node_kind r n < 9)
  binder_kind n q =
      let b = and_parts (leb 7 (node_kind r n)) (ltb (node_kind r n) 9) q in
      (leb-true 7 (node_kind r n) b.0, ltb-true (node_kind r n) 9 b.1)

  pub kind_binder : (n : ℕ) → 7 ≤ node_kind r n → node_kind r n < 9 → is_binder r n ≡ true
  kind_binder n h l = all (leb 7 (node_kind r n)) (ltb (node_kind r n) 9) (le-leb 7 (node_kind r n) h) (lt-ltb (node_kind r n) 9 l)

  pub binders_next : (n : ℕ) → is_binder r n ≡ true → binders_before r (suc n) ≡ binders_before r n + 1
  unfolding binders_before
  binders_next n q = ap (λ (b : Bool). binders_before r n + one_if b) q

  binders_step : (n : ℕ) → binders_before r n ≤ binders_before r (suc n)
  unfolding binders_before
  binders_step n = omega arith

  pub binders_rise : (n m : ℕ) → n ≤ m → binders_before r n ≤ binders_before r m
  binders_rise n zero h = let q : n ≡ 0 = omega arith in rw q (omega arith)
  binders_rise n (suc m) h =
      elim (dec_lt n (suc m)) [
        | yes l ↦ omega (arith, binders_rise n m (omega arith), binders_step m)
        | no l ↦ let q : n ≡ suc m = omega arith in rw q (omega arith)
      ]

  pub binder_one : (a b : ℕ) → is_binder r a ≡ true → is_binder r b ≡ true → binders_before r a ≡ binders_before r b → a ≡ b
  binder_one a b p q e =
      elim (dec_lt a b) [
        | yes h ↦ absurd (omega (arith, binders_next a p, binders_rise (suc a) b h))
        | no h ↦ elim (dec_lt b a) [
          | yes l ↦ absurd (omega (arith, binders_next b q, binders_rise (suc b) a l))
          | no l ↦ omega arith
        ]
      ]

  -- where no binder below n is a seventh, at most six stand there
  pub binders_few : (n : ℕ) → ((b : ℕ) → b < n → is_binder r b ≡ true → binders_before r b < 6) → binders_before r n ≤ 6
  unfolding binders_before
  binders_few zero h = omega arith
  binders_few (suc n) h = go (is_binder r n) refl (binders_few n (λ b l. h b (omega arith)))
    where
      go : (b : Bool) → is_binder r n ≡ b → binders_before r n ≤ 6 → binders_before r n + one_if b ≤ 6
      go true q l = omega (arith, h n (omega arith) q)
      go false q l = omega arith

  pub binder_found : (k : ℕ) → binder_node r k < node_count r → Binds r (binder_node r k) k
  unfolding binder_node
  binder_found k h =
      let b = and_parts (is_binder r (binder_node r k)) (eqb (binders_before r (binder_node r k)) k) (lowest_found (λ n. is_binder r n && eqb (binders_before r n) k) (node_count r) h) in
      record { among = h; is_binder_holds = b.0; numbered = eqb-true (binders_before r (binder_node r k)) k b.1 }

  found_by : (b k : ℕ) → Binds r b k → binder_node r k < node_count r
  unfolding binder_node
  found_by b k w =
      elim (dec_lt b (binder_node r k)) [
        | yes h ↦
            let t = all (is_binder r b) (eqb (binders_before r b) k) w.is_binder_holds (eq-eqb (binders_before r b) k w.numbered) in
            absurd (false≢true (sym (lowest_below (λ n. is_binder r n && eqb (binders_before r n) k) (node_count r) b h) ∙ t))
        | no h ↦ omega (arith, w.among)
      ]

  pub binder_node_lem : (b k : ℕ) → Binds r b k → binder_node r k ≡ b
  binder_node_lem b k w =
      let f = binder_found k (found_by b k w) in
      binder_one (binder_node r k) b f.is_binder_holds w.is_binder_holds (f.numbered ∙ sym w.numbered)
