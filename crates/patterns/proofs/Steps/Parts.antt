-- The parts of a pattern at their places.
use Prim.Native.Nat.{ℕ, ◌+◌, ◌<◌, ◌≤◌}
use mathlib.Core.Path.{◌≡◌, refl, sym, ◌∙◌, ap}
use mathlib.Core.List.{List, ◌∷◌, ◌++◌, append_assoc}
use native.Mathlib.Omega.{arith}
use lib.ListN.{length, drop, length-append, length-drop}
use lib.Seq.{get_or-drop, drop-drop, drop_at}
use Rattle.sheet.specs.Bytes.{byte}
use Rattle.patterns.specs.Patterns.{Pattern, written}
use Rattle.patterns.specs.Internal.SecondParts.{PartAt, AnyPlace}

module _ {p : List ℕ} {Second : ℕ → ℕ → Type 0} where
  -- a part has a byte
  pub part_some : {R : Pattern} {at end : ℕ} → PartAt p Second R at end → at + 2 ≤ end
  part_some (PartAt.action o x e u) = omega arith
  part_some (PartAt.sequence o s q r) = omega (arith, part_some q, part_some r)
  part_some (PartAt.choice o s q r) = omega (arith, part_some q, part_some r)
  part_some (PartAt.repetition o q) = omega (arith, part_some q)

  -- the byte that a part begins with is the number of a kind
  pub part_known : {R : Pattern} {at end : ℕ} → PartAt p Second R at end → byte p at ≤ 3
  part_known (PartAt.action o x e u) = omega arith
  part_known (PartAt.sequence o s q r) = omega arith
  part_known (PartAt.choice o s q r) = omega arith
  part_known (PartAt.repetition o q) = omega arith

  -- what is said of every part that begins with a byte, by that byte
  module _ (X : Pattern → Type 0) where
    pub by_action : {R : Pattern} {at end : ℕ} → byte p at ≡ 0 → ((e : ℕ) → byte p (at + 1) ≡ e → X (Pattern.action e)) → PartAt p Second R at end → X R
    by_action o f (PartAt.action {e} o' x l u) = f e x
    by_action o f (PartAt.sequence o' s q r) = absurd (omega arith)
    by_action o f (PartAt.choice o' s q r) = absurd (omega arith)
    by_action o f (PartAt.repetition o' q) = absurd (omega arith)

    pub by_sequence : {R : Pattern} {at end : ℕ} → byte p at ≡ 1
        → ((Q T : Pattern) (m : ℕ) → Second at m → PartAt p Second Q (at + 1) m → PartAt p Second T m end → X (Pattern.sequence Q T))
        → PartAt p Second R at end → X R
    by_sequence o f (PartAt.action o' x l u) = absurd (omega arith)
    by_sequence o f (PartAt.sequence {R = Q} {Q = T} {m = m} o' s q r) = f Q T m s q r
    by_sequence o f (PartAt.choice o' s q r) = absurd (omega arith)
    by_sequence o f (PartAt.repetition o' q) = absurd (omega arith)

    pub by_choice : {R : Pattern} {at end : ℕ} → byte p at ≡ 2
        → ((Q T : Pattern) (m : ℕ) → Second at m → PartAt p Second Q (at + 1) m → PartAt p Second T m end → X (Pattern.choice Q T))
        → PartAt p Second R at end → X R
    by_choice o f (PartAt.action o' x l u) = absurd (omega arith)
    by_choice o f (PartAt.sequence o' s q r) = absurd (omega arith)
    by_choice o f (PartAt.choice {R = Q} {Q = T} {m = m} o' s q r) = f Q T m s q r
    by_choice o f (PartAt.repetition o' q) = absurd (omega arith)

    pub by_repetition : {R : Pattern} {at end : ℕ} → byte p at ≡ 3 → ((Q : Pattern) → PartAt p Second Q (at + 1) end → X (Pattern.repetition Q))
        → PartAt p Second R at end → X R
    by_repetition o f (PartAt.action o' x l u) = absurd (omega arith)
    by_repetition o f (PartAt.sequence o' s q r) = absurd (omega arith)
    by_repetition o f (PartAt.choice o' s q r) = absurd (omega arith)
    by_repetition o f (PartAt.repetition {R = Q} o' q) = f Q q

  -- a part is within the pattern
  pub part_inside : {R : Pattern} {at end : ℕ} → PartAt p Second R at end → end ≤ length p
  part_inside (PartAt.action o x e u) = u
  part_inside (PartAt.sequence o s q r) = part_inside r
  part_inside (PartAt.choice o s q r) = part_inside r
  part_inside (PartAt.repetition o q) = part_inside q

  -- what is known of second parts may be put in other words, for places inside the part
  pub part_map : {Other : ℕ → ℕ → Type 0} {R : Pattern} {at end : ℕ} → ((i m : ℕ) → at ≤ i → i < end → Second i m → Other i m)
      → PartAt p Second R at end → PartAt p Other R at end
  part_map f (PartAt.action o x e u) = PartAt.action o x e u
  part_map {at = at} f (PartAt.sequence {m = m} o s q r) =
      let h = part_some q in let g = part_some r in
      PartAt.sequence o (f at m (omega arith) (omega arith) s) (part_map (λ i j l u. f i j (omega arith) (omega arith)) q)
      (part_map (λ i j l u. f i j (omega arith) (omega arith)) r)
  part_map {at = at} f (PartAt.choice {m = m} o s q r) =
      let h = part_some q in let g = part_some r in
      PartAt.choice o (f at m (omega arith) (omega arith) s) (part_map (λ i j l u. f i j (omega arith) (omega arith)) q)
      (part_map (λ i j l u. f i j (omega arith) (omega arith)) r)
  part_map f (PartAt.repetition o q) = let h = part_some q in PartAt.repetition o (part_map (λ i j l u. f i j (omega arith) (omega arith)) q)

-- the byte at a place, and what comes after it
module _ (p : List ℕ) (at b : ℕ) (rest : List ℕ) (h : drop at p ≡ b ∷ rest) where
  byte_here : byte p at ≡ b
  byte_here = let q : at ≡ at + 0 = omega arith in ap (byte p) q ∙ sym (get_or-drop at p 0 0) ∙ ap (λ (l : List ℕ). byte l 0) h

  drop_here : drop (at + 1) p ≡ rest
  drop_here = sym (drop-drop 1 at p) ∙ ap (drop 1) h

-- two parts after a byte
two_parts : (p : List ℕ) (at b : ℕ) (r q rest : List ℕ) → drop at p ≡ (b ∷ (r ++ q)) ++ rest
    → (drop (at + 1) p ≡ r ++ (q ++ rest)) × (drop (at + 1 + length r) p ≡ q ++ rest)
two_parts p at b r q rest h =
    let g : drop (at + 1) p ≡ r ++ (q ++ rest) = drop_here p at b (r ++ q ++ rest) h ∙ append_assoc r q rest in
    (g, sym (drop-drop (length r) (at + 1) p) ∙ ap (drop (length r)) g ∙ drop_at r (q ++ rest) (length r) refl)

-- the written form of a pattern is a part
pub written_part_lem : (p : List ℕ) (R : Pattern) (at end : ℕ) (rest : List ℕ) → drop at p ≡ written R ++ rest → end ≡ at + length (written R)
    → PartAt p AnyPlace R at end
unfolding written
written_part_lem p (Pattern.action e) at end rest h l =
    let g = drop_here p at _ _ h in
    PartAt.action (byte_here p at _ _ h) (byte_here p (at + 1) _ _ g) l (omega (arith, ap length h, length-drop at p))
written_part_lem p (Pattern.sequence R Q) at end rest h l =
    let k = two_parts p at 1 (written R) (written Q) rest h in
    PartAt.sequence (byte_here p at _ _ h) tt (written_part_lem p R (at + 1) (at + 1 + length (written R)) (written Q ++ rest) k.0 refl)
    (written_part_lem p Q (at + 1 + length (written R)) end rest k.1 (omega (arith, l, length-append (written R) (written Q))))
written_part_lem p (Pattern.choice R Q) at end rest h l =
    let k = two_parts p at 2 (written R) (written Q) rest h in
    PartAt.choice (byte_here p at _ _ h) tt (written_part_lem p R (at + 1) (at + 1 + length (written R)) (written Q ++ rest) k.0 refl)
    (written_part_lem p Q (at + 1 + length (written R)) end rest k.1 (omega (arith, l, length-append (written R) (written Q))))
written_part_lem p (Pattern.repetition R) at end rest h l =
    PartAt.repetition (byte_here p at _ _ h) (written_part_lem p R (at + 1) end rest (drop_here p at _ _ h) (omega (arith, l)))
