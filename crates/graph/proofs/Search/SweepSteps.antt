-- What the code of the search from several states shows, of any bytes: its loop over the states is `sweep`.
use Prim.Native.Nat.{ℕ, zero, suc, ◌+◌, ◌-◌, ◌<◌, ◌≤◌}
use mathlib.Core.Bool.{Bool, true, false}
use mathlib.Core.List.{List}
use mathlib.Core.Logic.{◌≢◌}
use mathlib.Core.Path.{◌≡◌, refl, sym, ap, ◌∙◌}
use native.Mathlib.Omega.{arith}
use lib.ListN.{length, get_or, replicate}
use borrow.Author.Tests.{eq-eqb, ne_eqb}
use Rattle.graph.specs.declared.Index.{Index}
use Rattle.graph.specs.declared.searching.Colour.{Colour}
use Rattle.graph.specs.declared.searching.Colour.TheVariants.{Unseen, Done}
use Rattle.graph.specs.Search.{Outcome, outcome, found_none, index_left, go_on, visit, colour_count, most_states, sweep, explored_all}
use Rattle.graph.specs.Explored.{StartsFrom}
use Rattle.graph.specs.Internal.Searching.{unseen_states, Visited}
use Rattle.graph.proofs.Search.Colouring.{shown_done, unseen_most}

-- ---- the equations of `sweep`

pub sweep_none : (p starts : List ℕ) (s : ℕ) (index : Index) (colours : List Colour) → sweep p starts zero s index colours ≡ outcome true index colours
unfolding sweep
sweep_none p starts s index colours = refl

module _ (p starts : List ℕ) (n s : ℕ) (index : Index) (colours : List Colour) where
  pub sweep_past : get_or starts s 0 ≡ 0 → sweep p starts (suc n) s index colours ≡ sweep p starts n (s + 1) index colours
  unfolding sweep
  sweep_past e = rw (eq-eqb (get_or starts s 0) 0 e)

  module _ (started : StartsFrom starts s) where
    pub sweep_done : get_or colours s Unseen ≡ Done → sweep p starts (suc n) s index colours ≡ sweep p starts n (s + 1) index colours
    unfolding sweep
    sweep_done d = rw (ne_eqb (get_or starts s 0) 0 started, d)

    pub sweep_start : get_or colours s Unseen ≢ Done
        → sweep p starts (suc n) s index colours ≡ go_on (λ x c. sweep p starts n (s + 1) x c) (visit p (colour_count + 1) s index colours)
    unfolding sweep
    sweep_start d = rw (ne_eqb (get_or starts s 0) 0 started, shown_done (get_or colours s Unseen) d)

-- ---- what the code shows

-- what is left from state s on
abbrev remaining : List ℕ → List ℕ → ℕ → Index → List Colour → Outcome
remaining p starts s index colours = sweep p starts (most_states - s) s index colours

-- of the loop: what is left leaves what the whole does
pub record Sweeping (p : List ℕ) (index₀ : Index) (starts : List ℕ) (index : Index) (colours : List Colour) (s : ℕ) : Type 0 where
  pub room : length colours ≡ colour_count
  pub left : explored_all p index₀ starts ≡ remaining p starts s index colours

-- what the code promises of the whole
abbrev Swept : (p : List ℕ) (index₀ : Index) (starts : List ℕ) (index : Index) → Bool → Type 0
Swept p index₀ starts index r = (r ≡ found_none (explored_all p index₀ starts)) × (index ≡ index_left (explored_all p index₀ starts))

pub sweep_starts : (p : List ℕ) (index : Index) (starts : List ℕ) → Sweeping p index starts index (replicate colour_count Unseen) 0
unfolding explored_all
sweep_starts p index starts = record { room = refl; left = refl }

module _ {p : List ℕ} {index₀ : Index} {starts : List ℕ} {index : Index} {colours : List Colour} {s : ℕ} (w : Sweeping p index₀ starts index colours s) where
  swept : (r : Bool) (index' : Index) (after : List Colour) → remaining p starts s index colours ≡ outcome r index' after → Swept p index₀ starts index' r
  swept r index' after e = (sym (ap found_none (w.left ∙ e)), sym (ap index_left (w.left ∙ e)))

  pub sweep_ends : most_states ≤ s → Swept p index₀ starts index true
  sweep_ends h =
      let e : most_states - s ≡ 0 = omega arith in
      swept true index colours (ap (λ (n : ℕ). sweep p starts n s index colours) e ∙ sweep_none p starts s index colours)

  module _ (h : s < most_states) where
    -- state s is the first of what is left
    stepped : {o : Outcome} → sweep p starts (suc (most_states - (s + 1))) s index colours ≡ o → remaining p starts s index colours ≡ o
    stepped q =
        let e : most_states - s ≡ suc (most_states - (s + 1)) = omega arith in
        ap (λ (n : ℕ). sweep p starts n s index colours) e ∙ q

    pub skip_past : get_or starts s 0 ≡ 0 → Sweeping p index₀ starts index colours (s + 1)
    skip_past e = record { room = w.room; left = w.left ∙ stepped (sweep_past p starts (most_states - (s + 1)) s index colours e) }

    module _ (started : StartsFrom starts s) where
      pub skip_done : get_or colours s Unseen ≡ Done → Sweeping p index₀ starts index colours (s + 1)
      skip_done d = record { room = w.room; left = w.left ∙ stepped (sweep_done p starts (most_states - (s + 1)) s index colours started d) }

      -- the state is searched
      module _ (not_done : get_or colours s Unseen ≢ Done) {index' : Index} {after : List Colour} where
        at_start : (r : Bool) → Visited p index colours index' after s r
            → remaining p starts s index colours ≡ go_on (λ x c. remaining p starts (s + 1) x c) (outcome r index' after)
        at_start r got =
            let deep : unseen_states colours < colour_count + 1 = omega (arith, unseen_most colours, w.room) in
            stepped (sweep_start p starts (most_states - (s + 1)) s index colours started not_done) ∙
            ap (λ (o : Outcome). go_on (λ x c. remaining p starts (s + 1) x c) o) (got.result (colour_count + 1) deep)

        pub sweep_found : Visited p index colours index' after s false → Swept p index₀ starts index' false
        sweep_found got = swept false index' after (at_start false got)

        pub sweep_next : Visited p index colours index' after s true → Sweeping p index₀ starts index' after (s + 1)
        sweep_next got = record { room = got.same_length ∙ w.room; left = w.left ∙ at_start true got }
