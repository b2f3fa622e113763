-- What holds of each cell of a list, member by member.
use mathlib.Core.List.Memᴰ
use mathlib.Core.List.{List, [], ◌∷◌, Memᴰ}
use mathlib.Core.Logic.{◌⊎◌, inl, inr}
use mathlib.Core.Path.{◌≡◌, refl, sym, subst}
use Rattle.rows.proofs.Systems.Systems.{Each}

pub each_at : {C : Type 0} (P : C → Type 0) (l : List C) → Each P l → (d : C) → Memᴰ d l → P d
each_at P [] e d m = absurd (Memᴰ.not-nil m)
each_at P (x ∷ l) e d m = go (Memᴰ.cases_cons m) (λ n. each_at P l e.1 d n)
  where
    go : (d ≡ x) ⊎ Memᴰ d l → (Memᴰ d l → P d) → P d
    go (inl q) rest = subst P (sym q) e.0
    go (inr n) rest = rest n

pub all_each : {C : Type 0} (P : C → Type 0) (l : List C) → ((d : C) → Memᴰ d l → P d) → Each P l
all_each P [] h = tt
all_each P (x ∷ l) h = (h x (Memᴰ.head refl), all_each P l (λ d m. h d (Memᴰ.tail m)))

pub each_both : {C : Type 0} (P Q : C → Type 0) (l : List C) → Each P l → Each Q l → Each (λ d. P d × Q d) l
each_both P Q [] x y = tt
each_both P Q (d ∷ l) x y = ((x.0, y.0), each_both P Q l x.1 y.1)
