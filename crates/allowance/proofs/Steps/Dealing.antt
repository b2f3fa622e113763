-- What the loops of dealing show: a round bench by bench, and round after round.
use Prim.Native.Nat.{ℕ, zero, suc, ◌+◌, ◌-◌, ◌<◌, ◌≤◌}
use mathlib.Core.Path.{◌≡◌, refl, sym, ap, subst, subst₂, ◌∙◌}
use mathlib.Core.Bool.{Bool, true, false}
use mathlib.Core.List.{List}
use mathlib.Core.Logic.{◌⊎◌, inl, inr}
use native.Mathlib.Omega.{arith}
use native.Mathlib.Nat.{sub-zero}
use lib.ListN.{length, get_or, set, replicate, length-set, length-map, length-replicate, get_or-map}
use Rattle.std.proofs.lemmas.List.{map-set, set-get_or}
use Rattle.std.proofs.Math.Seq.{map-set_same}
use borrow.Author.Tests.{lt-ltb, le-ltb}
use Rattle.allowance.specs.Dealing.{of_bench, Standing, standing, granted, visits_left, still_short, deal_to, deal_from}
use Rattle.allowance.specs.Dealing.{one_round, is_over, round_after_round, deal}
use Rattle.allowance.specs.Granting.{no_bench}
use Rattle.allowance.specs.Internal.Benches.{needs_in, grants_in, verdicts_in}
use Rattle.allowance.specs.declared.Bench.{Bench}
use Rattle.allowance.proofs.Grants.Rounds.{deal_cases, round_left, round_length, over_cases, round_less}
use Rattle.allowance.proofs.Grants.Rounds.{rounds_still, spent_over, after_round}

module _ (needs : List ℕ) where
  -- ---- a round

  deal_short : (i : ℕ) (g : List ℕ) (v : ℕ) → 0 < v → still_short needs g i ≡ true
      → deal_to needs i (standing g v) ≡ standing (set g i (of_bench g i + 1)) (v - 1)
  deal_short i g v p q = rw (lt-ltb 0 v p, q)

  deal_spent : (i : ℕ) (g : List ℕ) (v : ℕ) → v ≡ 0 → deal_to needs i (standing g v) ≡ standing g v
  deal_spent i g v z = rw (le-ltb 0 v (omega arith))

  from_spent : (count i : ℕ) (g : List ℕ) (v : ℕ) → v ≡ 0 → deal_from needs count i (standing g v) ≡ standing g v
  unfolding deal_from
  from_spent zero i g v z = refl
  from_spent (suc count) i g v z = ap (deal_from needs count (i + 1)) (deal_spent i g v z) ∙ from_spent count (i + 1) g v z

  from_one : (count i : ℕ) (d e : Standing) → deal_to needs i d ≡ e → deal_from needs (suc count) i d ≡ deal_from needs count (i + 1) e
  unfolding deal_from
  from_one count i d e q = ap (deal_from needs count (i + 1)) q

  from_next : (i : ℕ) (d e : Standing) → i < length needs → deal_to needs i d ≡ e
      → deal_from needs (length needs - i) i d ≡ deal_from needs (length needs - (i + 1)) (i + 1) e
  from_next i d e h q =
      let c : length needs - i ≡ suc (length needs - (i + 1)) = omega arith in
      ap (λ (n : ℕ). deal_from needs n i d) c ∙ from_one (length needs - (i + 1)) i d e q

  from_end : (i : ℕ) (d : Standing) → length needs ≤ i → deal_from needs (length needs - i) i d ≡ d
  unfolding deal_from
  from_end i d h = let c : length needs - i ≡ 0 = omega arith in ap (λ (n : ℕ). deal_from needs n i d) c

-- of the loop of a round: what is left of the round
pub record RoundLeft (needs g₀ : List ℕ) (v₀ : ℕ) (g : List ℕ) (v i : ℕ) : Type 0 where
  pub within : i ≤ length needs
  pub same : length g ≡ length g₀
  pub rest : one_round needs (standing g₀ v₀) ≡ deal_from needs (length needs - i) i (standing g v)

pub round_starts : (needs g : List ℕ) (v : ℕ) → RoundLeft needs g v g v 0
round_starts needs g v = record {
  within = omega arith;
  same = refl;
  rest = ap (λ (n : ℕ). deal_from needs n 0 (standing g v)) (sym (sub-zero (length needs)));
}

module _ {needs g₀ : List ℕ} {v₀ : ℕ} {g : List ℕ} {v i : ℕ} (w : RoundLeft needs g₀ v₀ g v i) where
  pub round_serves : (x : ℕ) → i < length needs → 0 < v → of_bench g i < of_bench needs i → x ≡ of_bench g i + 1
      → RoundLeft needs g₀ v₀ (set g i x) (v - 1) (i + 1)
  round_serves x h p q e = record {
    within = omega arith;
    same = length-set g i x ∙ w.same;
    rest = w.rest ∙ from_next needs i (standing g v) (standing (set g i x) (v - 1)) h
        (deal_short needs i g v p (lt-ltb _ _ q) ∙ ap (λ (n : ℕ). standing (set g i n) (v - 1)) (sym e));
  }

  pub round_passes : i < length needs → v ≡ 0 ⊎ (of_bench needs i ≤ of_bench g i) → RoundLeft needs g₀ v₀ g v (i + 1)
  round_passes h p = record {
    within = omega arith;
    same = w.same;
    rest = w.rest ∙ from_next needs i (standing g v) (standing g v) h (deal_passes p);
  }
    where
      deal_passes : v ≡ 0 ⊎ (of_bench needs i ≤ of_bench g i) → deal_to needs i (standing g v) ≡ standing g v
      deal_passes (inl z) = deal_spent needs i g v z
      deal_passes (inr l) =
          deal_cases needs (λ d. d ≡ standing g v) i g v (λ p q. absurd (omega arith)) (λ x. refl)

  pub round_ends : length needs ≤ i → standing g v ≡ one_round needs (standing g₀ v₀)
  round_ends h = sym (w.rest ∙ from_end needs i (standing g v) h)

-- the same of benches, whose needs and verdicts stay
pub record RoundOf (start : List Bench) (visits : ℕ) (benches : List Bench) (v i : ℕ) : Type 0 where
  pub round : RoundLeft (needs_in start) (grants_in start) visits (grants_in benches) v i
  pub needs_same : needs_in benches ≡ needs_in start
  pub verdicts_same : verdicts_in benches ≡ verdicts_in start

module _ {start : List Bench} {visits : ℕ} {benches : List Bench} {v i : ℕ} (w : RoundOf start visits benches v i) (h : i < length start) where
  abbrev bench : Bench
  bench = get_or benches i no_bench

  need_here : of_bench (needs_in start) i ≡ bench.need
  need_here = ap (λ (l : List ℕ). of_bench l i) (sym w.needs_same) ∙ get_or-map (λ b. b.need) benches i no_bench

  grant_here : of_bench (grants_in benches) i ≡ bench.grant
  grant_here = get_or-map (λ b. b.grant) benches i no_bench

  below : i < length (needs_in start)
  below = omega (arith, length-map start (λ b. b.need))

  pub bench_served : 0 < v → bench.grant < bench.need → (b : Bench) {after : List Bench} {u : ℕ} → after ≡ set benches i b → u ≡ v - 1
      → b.need ≡ bench.need → b.verdict ≡ bench.verdict → b.grant ≡ bench.grant + 1 → RoundOf start visits after u (i + 1)
  bench_served some less b {after} {u} e f p q r =
      subst₂ (λ (l : List Bench) (n : ℕ). RoundOf start visits l n (i + 1)) (sym e) (sym f)
      (record {
        round = subst (λ (g : List ℕ). RoundLeft (needs_in start) (grants_in start) visits g (v - 1) (i + 1)) (sym (map-set (λ b. b.grant) benches i b))
            (round_serves w.round b.grant below some (omega (arith, need_here, grant_here)) (omega (arith, r, grant_here)));
        needs_same = map-set_same (λ b. b.need) benches i b no_bench p ∙ w.needs_same;
        verdicts_same = map-set_same (λ b. b.verdict) benches i b no_bench q ∙ w.verdicts_same;
      })

  pub bench_passed : v ≡ 0 ⊎ (bench.need ≤ bench.grant) → {after : List Bench} {u : ℕ} → after ≡ set benches i bench → u ≡ v
      → RoundOf start visits after u (i + 1)
  bench_passed p {after} {u} e f =
      subst₂ (λ (l : List Bench) (n : ℕ). RoundOf start visits l n (i + 1)) (sym (e ∙ set-get_or benches i no_bench)) (sym f)
      (record { round = round_passes w.round below (passed p); needs_same = w.needs_same; verdicts_same = w.verdicts_same })
    where
      passed : v ≡ 0 ⊎ (bench.need ≤ bench.grant) → v ≡ 0 ⊎ (of_bench (needs_in start) i ≤ of_bench (grants_in benches) i)
      passed (inl z) = inl z
      passed (inr l) = inr (omega (arith, need_here, grant_here))

-- ---- round after round

-- where no bench is short a round changes nothing, and so where dealing is over
from_full : (needs : List ℕ) (count i : ℕ) (g : List ℕ) (v : ℕ) → ((j : ℕ) → j < length needs → of_bench needs j ≤ of_bench g j)
    → i + count ≤ length needs → deal_from needs count i (standing g v) ≡ standing g v
unfolding deal_from
from_full needs zero i g v n l = refl
from_full needs (suc count) i g v n l =
    ap (deal_from needs count (i + 1))
    (deal_cases needs (λ d. d ≡ standing g v) i g v (λ p q. absurd (omega (arith, n i (omega arith)))) (λ x. refl))
    ∙ from_full needs count (i + 1) g v n (omega arith)

over_still : (needs g : List ℕ) (v : ℕ) → is_over needs (standing g v) ≡ true → one_round needs (standing g v) ≡ standing g v
over_still needs g v h = go (over_cases needs g v h)
  where
    go : (v ≡ 0) ⊎ ((j : ℕ) → j < length needs → of_bench needs j ≤ of_bench g j) → one_round needs (standing g v) ≡ standing g v
    go (inl z) = from_spent needs (length needs) 0 g v z
    go (inr n) = from_full needs (length needs) 0 g v n (omega arith)

-- of the loop of rounds: what is left of the dealing
pub record DealingLeft (needs : List ℕ) (visits : ℕ) (g : List ℕ) (v : ℕ) : Type 0 where
  pub same : length g ≡ length needs
  pub rest : deal needs visits ≡ granted (round_after_round needs (standing g v))

pub zeros_length : {n : ℕ} {g : List ℕ} → g ≡ replicate n 0 → length g ≡ n
zeros_length {n} {g} e = ap length e ∙ length-replicate n 0

pub dealing_starts : (needs g : List ℕ) (visits : ℕ) → g ≡ replicate (length needs) 0 → DealingLeft needs visits g visits
unfolding deal
dealing_starts needs g visits e = record {
  same = zeros_length e;
  rest = ap (λ (l : List ℕ). granted (round_after_round needs (standing l visits))) (sym e);
}

module _ {needs : List ℕ} {visits : ℕ} {g : List ℕ} {v : ℕ} (w : DealingLeft needs visits g v) where
  pub dealing_spent : v ≡ 0 → g ≡ deal needs visits
  dealing_spent z = ap granted (sym (rounds_still needs v (standing g v) (spent_over needs (standing g v) z))) ∙ sym w.rest

  module _ {h : List ℕ} {u : ℕ} (e : standing h u ≡ one_round needs (standing g v)) where
    pub round_same : length h ≡ length needs
    round_same = ap (λ (d : Standing). length (granted d)) e ∙ round_length needs (length needs) 0 g v ∙ w.same

    pub round_no_more : u ≤ v
    round_no_more = omega (arith, ap visits_left e, round_left needs (length needs) 0 (standing g v) v (omega arith))

    pub dealing_goes_on : DealingLeft needs visits h u
    dealing_goes_on = record { same = round_same; rest = w.rest ∙ ap granted (go (is_over needs (standing g v)) refl) }
      where
        go : (b : Bool) → is_over needs (standing g v) ≡ b → round_after_round needs (standing g v) ≡ round_after_round needs (standing h u)
        go true q = ap (round_after_round needs) (sym (e ∙ over_still needs g v q))
        go false q = after_round needs (standing g v) q ∙ ap (round_after_round needs) (sym e)

    -- a round that spends nothing finds dealing over
    pub dealing_full : u ≡ v → h ≡ deal needs visits
    dealing_full s = go (is_over needs (standing g v)) refl
      where
        go : (b : Bool) → is_over needs (standing g v) ≡ b → h ≡ deal needs visits
        go true q = ap granted (e ∙ over_still needs g v q ∙ sym (rounds_still needs v (standing g v) q)) ∙ sym w.rest
        go false q = absurd (omega (arith, ap visits_left e, round_less needs g v q))
