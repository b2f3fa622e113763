-- What the code of the search shows, of any bytes: its loop over the transitions of a state is `scan`, and its recursion `visit`.
use Prim.Native.Nat.{ℕ, zero, suc, ◌+◌, ◌-◌, ◌<◌, ◌≤◌}
use mathlib.Core.Bool.{Bool, true, false}
use mathlib.Core.List.{List}
use mathlib.Core.Logic.{◌≢◌}
use mathlib.Core.Path.{◌≡◌, refl, sym, ap, ◌∙◌}
use native.Mathlib.Omega.{arith}
use native.Mathlib.Decide.{dec_lt}
use native.Mathlib.Nat.{not-suc-le-zero}
use lib.ListN.{length, get_or, set, replicate, length-set}
use borrow.Author.Tests.{eq-eqb, ne_eqb}
use Rattle.sheet.specs.Plan.{origin, label, target}
use Rattle.graph.specs.declared.Index.{Index}
use Rattle.graph.specs.declared.searching.Colour.{Colour}
use Rattle.graph.specs.declared.searching.Colour.TheVariants.{Unseen, Open, Done}
use Rattle.graph.specs.Index.{with_first, with_action}
use Rattle.graph.specs.Search.{held, first_by_halving, Outcome, outcome, found_none, index_left, go_on, leave, scan, enter, step, visit, colour_count, explored}
use Rattle.graph.specs.Internal.Searching.{colour_number, unseen_states, TransitionsCounted, Visiting, Visited}
use Rattle.graph.proofs.Search.Colouring.{shown_done, left_unseen, done_seen, none_coloured, all_unseen, unseen_set, unseen_falls}

-- ---- the equations of `scan` and `visit`

module _ (p : List ℕ) (rec : ℕ → Index → List Colour → Outcome) (s i : ℕ) (index : Index) (colours : List Colour) where
  abbrev noted : Index
  noted = with_action index (label p i)

  pub scan_none : held p ≤ i → scan p rec s (held p - i) i index colours ≡ leave s i index colours
  unfolding scan
  scan_none h =
      let e : held p - i ≡ 0 = omega arith in
      rw e

  module _ (h : i < held p) where
    one_less : held p - i ≡ suc (held p - (i + 1))
    one_less = omega arith

    pub scan_other : (origin p i ≡ s → ⊥) → scan p rec s (held p - i) i index colours ≡ leave s i index colours
    unfolding scan
    scan_other n = rw (one_less, ne_eqb (origin p i) s n)

    module _ (e : origin p i ≡ s) where
      pub scan_done : get_or colours (target p i) Unseen ≡ Done
          → scan p rec s (held p - i) i index colours ≡ scan p rec s (held p - (i + 1)) (i + 1) noted colours
      unfolding scan
      scan_done d = rw (one_less, eq-eqb (origin p i) s e, d)

      pub scan_target : get_or colours (target p i) Unseen ≢ Done
          → scan p rec s (held p - i) i index colours ≡ go_on (λ x c. scan p rec s (held p - (i + 1)) (i + 1) x c) (rec (target p i) noted colours)
      unfolding scan
      scan_target d = rw (one_less, eq-eqb (origin p i) s e, shown_done (get_or colours (target p i) Unseen) d)

module _ (p : List ℕ) (f s : ℕ) (index : Index) (colours : List Colour) where
  pub visit_open : get_or colours s Unseen ≡ Open → visit p (suc f) s index colours ≡ outcome false index colours
  unfolding visit step
  visit_open e = rw e refl

  pub visit_new : get_or colours s Unseen ≡ Unseen → visit p (suc f) s index colours ≡ enter p (λ t x c. visit p f t x c) s (first_by_halving p s) index colours
  unfolding visit step
  visit_new e = rw e refl

-- ---- what the code shows

-- what is left to scan from transition i on, f states deep
abbrev rest : List ℕ → ℕ → ℕ → ℕ → Index → List Colour → Outcome
rest p s f i index colours = scan p (λ t x c. visit p f t x c) s (held p - i) i index colours

-- the search of s has begun: `index₀` is the index then
pub record Begun (p : List ℕ) (s : ℕ) (index : Index) (before : List Colour) (index₀ : Index) : Type 0 where
  pub inside : s < length before
  pub unseen_yet : get_or before s Unseen ≡ Unseen
  pub is_begun : index₀ ≡ with_first index s (first_by_halving p s)

pub begins : (p : List ℕ) (s : ℕ) (index : Index) (before : List Colour) (i : ℕ) → s < length before → get_or before s Unseen ≢ Done
    → (get_or before s Unseen ≡ Open → ⊥) → i ≡ first_by_halving p s → Begun p s index before (with_first index s i)
begins p s index before i inside low n e = record {
  inside = inside;
  unseen_yet = left_unseen (get_or before s Unseen) low n;
  is_begun = ap (λ (k : ℕ). with_first index s k) e;
}

-- of the loop: what is left to scan leaves what the whole does
pub record Scanning (p : List ℕ) (s : ℕ) (index₀ : Index) (colours₀ : List Colour) (i : ℕ) (index : Index) (colours : List Colour) : Type 0 where
  pub before_end : i ≤ held p
  pub same_length : length colours ≡ length colours₀
  pub none_forgotten : unseen_states colours ≤ unseen_states colours₀
  pub left : (f : ℕ) → unseen_states colours₀ < f → rest p s f (first_by_halving p s) index₀ colours₀ ≡ rest p s f i index colours

-- transition i is one of the state's, and `noted` the index with its action
pub record Turn (p : List ℕ) (s i : ℕ) (index noted : Index) : Type 0 where
  pub more : i < held p
  pub from : origin p i ≡ s
  pub is_noted : noted ≡ with_action index (label p i)

pub turns : (p : List ℕ) (s i : ℕ) (index : Index) (action : ℕ) → i < held p → origin p i ≡ s → action ≡ label p i
    → Turn p s i index (with_action index action)
turns p s i index action h e l = record { more = h; from = e; is_noted = ap (λ (k : ℕ). with_action index k) l }

-- a state met while it is open
pub visited_open : (p : List ℕ) (s : ℕ) (index : Index) (before : List Colour) → get_or before s Unseen ≡ Open → Visited p index before index before s false
visited_open p s index before e = record { result = go; same_length = refl; none_forgotten = omega arith }
  where
    go : (f : ℕ) → unseen_states before < f → visit p f s index before ≡ outcome false index before
    go zero h = absurd (not-suc-le-zero h)
    go (suc f) h = visit_open p f s index before e

pub scan_starts : (p : List ℕ) (s : ℕ) (index₀ : Index) (colours₀ : List Colour) (i : ℕ) → i ≡ first_by_halving p s → i ≤ held p
    → Scanning p s index₀ colours₀ i index₀ colours₀
scan_starts p s index₀ colours₀ i e h = record {
  before_end = h;
  same_length = refl;
  none_forgotten = omega arith;
  left = λ f l. ap (λ (k : ℕ). rest p s f k index₀ colours₀) (sym e);
}

module _ {p : List ℕ} {s : ℕ} {index : Index} {before : List Colour} {index₀ : Index} (b : Begun p s index before index₀) where
  pub fewer_unseen : unseen_states (set before s Open) < unseen_states before
  fewer_unseen = unseen_falls before s b.inside b.unseen_yet

  module _ {i : ℕ} {index' : Index} {colours : List Colour} (w : Scanning p s index₀ (set before s Open) i index' colours) where
    -- what the whole search leaves is what is left to scan leaves
    whole : (o : Outcome) → ((f : ℕ) → unseen_states (set before s Open) < f → rest p s f i index' colours ≡ o)
        → (f : ℕ) → unseen_states before < f → visit p f s index before ≡ o
    whole o end zero h = absurd (not-suc-le-zero h)
    whole o end (suc f) h =
        let l : unseen_states (set before s Open) < f = omega (arith, fewer_unseen) in
        visit_new p f s index before b.unseen_yet ∙
        (ap (λ (x : Index). rest p s f (first_by_halving p s) x (set before s Open)) (sym b.is_begun) ∙ (w.left f l ∙ end f l))

    module _ {noted : Index} (t : Turn p s i index' noted) where
      pub scan_past : get_or colours (target p i) Unseen ≡ Done → Scanning p s index₀ (set before s Open) (i + 1) noted colours
      scan_past d = record {
        before_end = omega (arith, t.more);
        same_length = w.same_length;
        none_forgotten = w.none_forgotten;
        left = λ f l.
            w.left f l ∙ (scan_done p (λ t x c. visit p f t x c) s i index' colours t.more t.from d ∙
            ap (λ (x : Index). rest p s f (i + 1) x colours) (sym t.is_noted));
      }

      -- the target is searched
      module _ (not_done : get_or colours (target p i) Unseen ≢ Done) {index'' : Index} {after : List Colour} where
        at_target : (r : Bool) → Visited p noted colours index'' after (target p i) r → (f : ℕ) → unseen_states (set before s Open) < f
            → rest p s f i index' colours ≡ go_on (λ x c. rest p s f (i + 1) x c) (outcome r index'' after)
        at_target r got f l =
            scan_target p (λ t x c. visit p f t x c) s i index' colours t.more t.from not_done ∙
            ap (λ (o : Outcome). go_on (λ x c. rest p s f (i + 1) x c) o)
            (ap (λ (x : Index). visit p f (target p i) x colours) (sym t.is_noted) ∙ got.result f (omega (arith, w.none_forgotten)))

        pub scan_found : Visited p noted colours index'' after (target p i) false → Visited p index before index'' after s false
        scan_found got = record {
          result = whole (outcome false index'' after) (at_target false got);
          same_length = got.same_length ∙ (w.same_length ∙ simp length-set);
          none_forgotten = omega (arith, got.none_forgotten, w.none_forgotten, fewer_unseen);
        }

        pub scan_next : Visited p noted colours index'' after (target p i) true → Scanning p s index₀ (set before s Open) (i + 1) index'' after
        scan_next got = record {
          before_end = omega (arith, t.more);
          same_length = got.same_length ∙ w.same_length;
          none_forgotten = omega (arith, got.none_forgotten, w.none_forgotten);
          left = λ f l. w.left f l ∙ at_target true got f l;
        }

    -- transition i is none of the state's
    pub scan_ends : (i < held p → origin p i ≡ s → ⊥) → {ended : Index} → ended ≡ with_first index' (s + 1) i
        → Visited p index before ended (set colours s Done) s true
    scan_ends other {ended} is-ended = record {
      result = whole (outcome true ended (set colours s Done)) (λ f l. last f ∙ ap (λ (x : Index). outcome true x (set colours s Done)) (sym is-ended));
      same_length = simp length-set (w.same_length ∙ simp length-set);
      none_forgotten = omega (arith, unseen_set colours s Done done_seen, w.none_forgotten, fewer_unseen);
    }
      where
        last : (f : ℕ) → rest p s f i index' colours ≡ leave s i index' colours
        last f =
            elim (dec_lt i (held p)) [
              | yes h ↦ scan_other p (λ t x c. visit p f t x c) s i index' colours h (other h)
              | no h ↦ scan_none p (λ t x c. visit p f t x c) s i index' colours (omega arith)
            ]

-- ---- from colours that are all 0

pub visiting_starts : (p : List ℕ) (count s : ℕ) → TransitionsCounted p count → Visiting p count (replicate colour_count Unseen) s
visiting_starts p count s counted = record { counted = counted; room = refl; not_done = λ e. omega (arith, ap colour_number (sym (none_coloured colour_count s) ∙ e)) }

pub visited_explored : (p : List ℕ) (index index' : Index) (after : List Colour) (s : ℕ) (r : Bool) → Visited p index (replicate colour_count Unseen) index' after s r
    → (r ≡ found_none (explored p index s)) × (index' ≡ index_left (explored p index s))
unfolding explored
visited_explored p index index' after s r got =
    let deep : unseen_states (replicate colour_count Unseen) < colour_count + 1 = omega (arith, all_unseen colour_count) in
    let e = got.result (colour_count + 1) deep in
    (sym (ap found_none e), sym (ap index_left e))
