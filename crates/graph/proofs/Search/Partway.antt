-- A search on its way: what is so while the transitions of a state are passed.
use Prim.Native.Nat.{ℕ, ◌+◌, ◌<◌, ◌≤◌}
use mathlib.Core.Bool.{true, false, true≢false}
use mathlib.Core.List.{List}
use mathlib.Core.Logic.{◌≢◌}
use mathlib.Core.Path.{◌≡◌, refl}
use native.Mathlib.Omega.{arith}
use lib.ListN.{length, get_or}
use Rattle.sheet.specs.Plan.{label, target}
use Rattle.graph.specs.declared.Index.{Index}
use Rattle.graph.specs.declared.searching.Colour.{Colour}
use Rattle.graph.specs.declared.searching.Colour.TheVariants.{Unseen, Open, Done}
use Rattle.graph.specs.Explored.{first_from}
use Rattle.graph.specs.Loops.{Way}
use Rattle.graph.specs.Successors.{successors}
use Rattle.graph.specs.Internal.Searching.{unseen_states, Coloured, Retains, Searched}
use Rattle.graph.proofs.Search.Retaining.{retains_self}

-- the search of state s has passed its transitions up to i; `begun` and `start` are the index and the colours as it began to
pub record Partway (p : List ℕ) (begun : Index) (start : List Colour) (index : Index) (colours : List Colour) (s i : ℕ) : Type 0 where
  pub after_first : first_from p s ≤ i
  pub before_end : i ≤ first_from p (s + 1)
  pub same_length : length colours ≡ length start
  pub coloured : Coloured p index colours
  pub none_opened : (u : ℕ) → get_or colours u Unseen ≡ Open → get_or start u Unseen ≡ Open
  pub none_forgotten : unseen_states colours ≤ unseen_states start
  pub done_kept : (u : ℕ) → get_or start u Unseen ≡ Done → get_or colours u Unseen ≡ Done
  pub retains : Retains p begun index
  pub passed : (k : ℕ) → first_from p s ≤ k → k < i → get_or colours (target p k) Unseen ≡ Done
  pub noted : (k : ℕ) → first_from p s ≤ k → k < i → get_or index.actions (label p k) false ≡ true
  pub within : (u : ℕ) → get_or colours u Unseen ≢ get_or start u Unseen → Way (successors p) s u

-- a state that is done needs no search
pub done_already : {p : List ℕ} {index : Index} {colours : List Colour} (s : ℕ) → Coloured p index colours → get_or colours s Unseen ≡ Done
    → Searched p index colours index colours s true
done_already s coloured h = record {
  looped = λ q. absurd (true≢false q);
  finished = λ q. record {
    state_done = h;
    same_length = refl;
    coloured = coloured;
    none_opened = λ u e. e;
    none_forgotten = omega arith;
    done_kept = λ u e. e;
    retains = retains_self;
  };
  within = λ u n. absurd (n refl);
}
