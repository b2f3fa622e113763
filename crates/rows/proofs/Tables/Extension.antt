-- Right extensions of a table keep every solution, and need what was needed less what they have filled.
use mathlib.Core.Bool.{Bool, true, false, ◌||◌, true≢false}
use mathlib.Core.List.{List, [], ◌∷◌}
use mathlib.Core.Logic.{◌⊎◌, inl, inr}
use mathlib.Core.Path.{◌≡◌, refl, sym, ap, ap₂, subst, ◌∙◌}
use Prim.Native.Nat.{ℕ, zero, suc, ◌<◌}
use native.Mathlib.Omega.{arith}
use Rattle.rows.specs.Rows.{Connective, Row, decides, joined, looked}
use Rattle.rows.specs.Tables.{byte_at, empty, byte_of, constant, changed, among}
use Rattle.rows.proofs.Systems.Systems.{Each, Solvable}
use Rattle.rows.proofs.Systems.Fuel.{each_map, value_row, value_unique}
use Rattle.rows.proofs.Systems.Changed.{empty_byte, joined_constant, changed_same, changed_byte}
use Rattle.rows.proofs.Tables.Among.{false_if, among_append, among_none, among_tail}
use Rattle.rows.proofs.Systems.Needs.{changed_solvable, need_unfold, solution, needed}

module _ {C : Type 0} (position : C → ℕ) (i : ℕ) (k : Connective) (v w : C → Bool) (n m : C → List C) where
  -- the entries looked at hold a position alike where the entries' needs do
  pub looked_among : (l : List C) → Each (λ d. (v d ≡ w d) × (among position (n d) i ≡ among position (m d) i)) l → among position (looked k v n l) i ≡ among position (looked k w m l) i
  unfolding looked
  looked_among [] e = refl
  looked_among (d ∷ l) e =
      among_append position (n d) _ i ∙ ap₂ ◌||◌ e.0.1 (ap (λ (a : Bool). among position (rest n v a) i) e.0.0 ∙ alike (decides k (w d)) (looked_among l e.1)) ∙ sym (among_append position (m d) _ i)
    where
      rest : (C → List C) → (C → Bool) → Bool → List C
      rest n v a = elim (decides k a) as (λ b. List C) [ true ↦ [] | false ↦ looked k v n l ]

      alike : (b : Bool) → among position (looked k v n l) i ≡ among position (looked k w m l) i →
          among position (elim b as (λ b. List C) [ true ↦ [] | false ↦ looked k v n l ]) i ≡ among position (elim b as (λ b. List C) [ true ↦ [] | false ↦ looked k w m l ]) i
      alike true h = refl
      alike false h = h

pub looked_constant : {C : Type 0} (b : Bool) (v : C → Bool) (n : C → List C) → looked (constant {C = C} b).connective v n (constant {C = C} b).entries ≡ []
unfolding looked
looked_constant true v n = refl
looked_constant false v n = refl

module _ {C : Type 0} {position : C → ℕ} {rows : C → Row C} {size : ℕ} {cell_at : ℕ → C} {Valid : C → Type 0} {rank : C → ℕ} {F : ℕ} (s : Solvable position rows size cell_at Valid rank F) where
  -- a cell is as in t or, where t had it empty, holds its solution by t's rows
  abbrev pub Kept : List ℕ → List ℕ → C → Type 0
  Kept t u c = (byte_at u (position c) ≡ byte_at t (position c)) ⊎ ((empty (byte_at t (position c)) ≡ true) × (byte_at u (position c) ≡ byte_of (solution s t c)))

  -- u is a right extension of t: every cell is kept, and with a newly filled cell all cells needed for it are filled
  pub record Extends (t u : List ℕ) : Type 0 where
    pub kept : (c : C) → Valid c → Kept t u c
    pub closed : (c : C) → Valid c → empty (byte_at t (position c)) ≡ true → empty (byte_at u (position c)) ≡ false → (i : ℕ) → among position (needed s t c) i ≡ true → empty (byte_at u i) ≡ false

  module _ (t u : List ℕ) (x : Extends t u) where
    pub extension_value : (c : C) → Valid c → solution s u c ≡ solution s t c
    extension_value c vc = sym (value_unique (changed position rows u) (changed_solvable s u).falling (solution s t) (λ d vd. go d vd (x.kept d vd)) F c vc (s.fuelled c vc))
      where
        Obeys : C → Row C → Type 0
        Obeys d r = solution s t d ≡ joined r.connective (solution s t) r.entries

        go : (d : C) → Valid d → Kept t u d → Obeys d (changed position rows u d)
        go d vd (inl e) = subst (Obeys d) (sym (changed_same position rows t u d e)) (value_row (changed position rows t) (changed_solvable s t).falling F d vd (s.fuelled d vd))
        go d vd (inr e) = subst (Obeys d) (sym (changed_byte position rows u d (solution s t d) e.1)) (sym (joined_constant (solution s t d) (solution s t)))

    -- what u leaves empty is needed by u exactly where it is needed by t
    pub extension_need : (i : ℕ) → empty (byte_at u i) ≡ true → (c : C) → Valid c → among position (needed s u c) i ≡ among position (needed s t c) i
    extension_need i free c vc = go (suc (rank c)) c vc (omega arith)
      where
        Agree : C → Row C → Type 0
        Agree c r = among position (c ∷ looked r.connective (solution s u) (needed s u) r.entries) i ≡ among position (needed s t c) i

        Same : C → Type 0
        Same d = (solution s u d ≡ solution s t d) × (among position (needed s u d) i ≡ among position (needed s t d) i)

        one : (c : C) → Valid c → Each Same (changed position rows t c).entries → Kept t u c → Agree c (changed position rows u c)
        one c vc ih (inl e) =
            subst (Agree c) (sym (changed_same position rows t u c e)) (rw (need_unfold (changed_solvable s t) c vc)
            (among_tail position c _ _ i (looked_among position i _ _ _ _ _ (changed position rows t c).entries ih)))
        one c vc ih (inr e) =
            subst (Agree c) (sym (changed_byte position rows u c (solution s t c) e.1)) (rw (looked_constant (solution s t c) (solution s u) (needed s u)) (among_none position (c ∷ []) i (outside, tt) ∙ sym (false_if _ unneeded)))
          where
            full : empty (byte_at u (position c)) ≡ false
            full = ap empty e.1 ∙ empty_byte (solution s t c)

            outside : position c ≡ i → ⊥
            outside q = true≢false (sym free ∙ ap (λ (j : ℕ). empty (byte_at u j)) (sym q) ∙ full)

            unneeded : among position (needed s t c) i ≡ true → ⊥
            unneeded m = true≢false (sym free ∙ x.closed c vc e.0 full i m)

        go : (b : ℕ) (c : C) → Valid c → rank c < b → among position (needed s u c) i ≡ among position (needed s t c) i
        go zero c vc h = absurd (omega arith)
        go (suc b) c vc h =
            rw (need_unfold (changed_solvable s u) c vc) (one c vc
            (each_map (λ d (q : Valid d × (rank d < rank c)). (extension_value d q.0, go b d q.0 (omega arith))) (changed position rows t c).entries ((changed_solvable s t).falling.falls c vc))
            (x.kept c vc))
