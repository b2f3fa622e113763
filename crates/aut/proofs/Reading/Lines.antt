-- A line and the first line: what the scan takes is one, and the scan takes one where it stands.
use Prim.Native.Nat.{ℕ}
use mathlib.Core.Path.{◌≡◌, refl, sym, ap, ◌∙◌}
use mathlib.Core.List.{List, [], ◌∷◌, ◌++◌, append_assoc}
use Rattle.text.specs.Numerals.{Decimal, is_digit, decimal_value}
use Rattle.text.proofs.Numerals.{decimal_accepted, decimal_value_lem, accepted_decimal}
use Rattle.aut.specs.Texts.{open_parenthesis, close_parenthesis, comma, quote_mark, line_feed_byte, ShownSpace, is_label_byte, All}
use Rattle.aut.specs.Texts.{FirstLine, TransitionLine, ReadsFirstLine, first_line_rule, ReadsLine, transition_line_rule}
use Rattle.aut.specs.Scanning.{Rest, rest, after_byte, after_space, after_numeral, numeral_of, after_label, label_of}
use Rattle.aut.specs.Scanning.{from_at, label_at, to_at, after_line, line_of}
use Rattle.aut.specs.Scanning.{first_at, transitions_at, states_at, after_first_line, first_line_of}
use Rattle.aut.proofs.Reading.Pieces.{IsNumeral, Took, byte_back, space_back, numeral_back, label_back}
use Rattle.aut.proofs.Reading.Pieces.{Stops, NoSpace, space_on, numeral_on, label_on, numeral_no_space}

-- ---- the digits of a number

decimal_on : {w : List ℕ} {n : ℕ} → Decimal w n → (s : List ℕ) → Stops is_digit s
    → (after_numeral (rest (w ++ s)) ≡ rest s) × (decimal_value (numeral_of (rest (w ++ s))) ≡ n)
decimal_on {w} d s h = let k = numeral_on w s (decimal_accepted d) h in (k.0, ap decimal_value k.1 ∙ decimal_value_lem d)

decimal_no_space : {w : List ℕ} {n : ℕ} → Decimal w n → (s : List ℕ) → NoSpace (w ++ s)
decimal_no_space {w} d s = numeral_no_space w s (decimal_accepted d)

-- ---- a line

line_joined : (f g l h t s : List ℕ)
    → (open_parenthesis
    ∷ (f ++ comma ∷ (g ++ quote_mark ∷ (l ++ quote_mark ∷ comma ∷ (h ++ (t ++ close_parenthesis ∷ line_feed_byte ∷ []))))))
    ++ s
    ≡ open_parenthesis
    ∷ (f ++ comma ∷ (g ++ quote_mark ∷ (l ++ quote_mark ∷ comma ∷ (h ++ (t ++ close_parenthesis ∷ line_feed_byte ∷ s)))))
line_joined f g l h t s = simp append_assoc

pub line_back : (x : Rest) {s : List ℕ} → after_line x ≡ rest s
    → (w : List ℕ) × Took (λ (a : List ℕ). ReadsLine a (line_of x)) x w s
    × (IsNumeral (numeral_of (from_at x)) × IsNumeral (numeral_of (to_at x)))
unfolding after_line line_of
line_back x {s} q =
    let to_end = after_numeral (to_at x) in
    let closed = after_byte close_parenthesis to_end in
    let t = numeral_back (to_at x) (byte_back close_parenthesis to_end (byte_back line_feed_byte closed q)) in
    let label_end = after_label (label_at x) in
    let quoted = after_byte quote_mark label_end in
    let h = space_back (after_byte comma quoted) t.whole in
    let l = label_back (label_at x) (byte_back quote_mark label_end (byte_back comma quoted h.1.whole)) in
    let from_end = after_numeral (from_at x) in
    let g = space_back (after_byte comma from_end) (byte_back quote_mark (after_space (after_byte comma from_end)) l.whole) in
    let f = numeral_back (from_at x) (byte_back comma from_end g.1.whole) in (
      _,
      record {
        is =
            transition_line_rule (accepted_decimal (numeral_of (from_at x)) f.is) g.1.is l.is h.1.is
            (accepted_decimal (numeral_of (to_at x)) t.is);
        whole =
            byte_back open_parenthesis x f.whole
            ∙ ap rest (sym (line_joined (numeral_of (from_at x)) g.0 (label_of (label_at x)) h.0 (numeral_of (to_at x)) s));
      },
      (f.is, t.is),
    )

module _
    {f g : List ℕ}
    (l : List ℕ)
    {h t : List ℕ}
    {from to : ℕ}
    (df : Decimal f from)
    (sg : ShownSpace g)
    (al : All is_label_byte l)
    (sh : ShownSpace h)
    (dt : Decimal t to)
    (s : List ℕ) where
  -- what follows each part
  abbrev follows_to : List ℕ
  follows_to = close_parenthesis ∷ line_feed_byte ∷ s

  abbrev follows_label : List ℕ
  follows_label = quote_mark ∷ comma ∷ (h ++ (t ++ follows_to))

  abbrev follows_from : List ℕ
  follows_from = comma ∷ (g ++ quote_mark ∷ (l ++ follows_label))

  abbrev line_text : Rest
  line_text = rest (open_parenthesis ∷ (f ++ follows_from))

  at_label : label_at line_text ≡ rest (l ++ follows_label)
  at_label =
      ap (λ (y : Rest). after_byte quote_mark (after_space (after_byte comma y))) (decimal_on df follows_from refl).0
      ∙ ap (after_byte quote_mark) (space_on sg (quote_mark ∷ (l ++ follows_label)) refl)

  at_to : to_at line_text ≡ rest (t ++ follows_to)
  at_to =
      ap (λ (y : Rest). after_space (after_byte comma (after_byte quote_mark (after_label y)))) at_label
      ∙ ap (λ (y : Rest). after_space (after_byte comma (after_byte quote_mark y))) (label_on l follows_label al refl).0
      ∙ space_on sh (t ++ follows_to) (decimal_no_space dt follows_to)

  at_line_end : after_line line_text ≡ rest s
  unfolding after_line
  at_line_end =
      ap (λ (y : Rest). after_byte line_feed_byte (after_byte close_parenthesis (after_numeral y))) at_to
      ∙ ap (λ (y : Rest). after_byte line_feed_byte (after_byte close_parenthesis y)) (decimal_on dt follows_to refl).0

  line_says : line_of line_text ≡ record { from = from; label = l; to = to }
  unfolding line_of
  line_says = λ i.
      record {
        from = (decimal_on df follows_from refl).1 i;
        label = (ap label_of at_label ∙ (label_on l follows_label al refl).1) i;
        to = (ap (λ (y : Rest). decimal_value (numeral_of y)) at_to ∙ (decimal_on dt follows_to refl).1) i;
      }

pub line_on : {w : List ℕ} {x : TransitionLine} → ReadsLine w x → (s : List ℕ)
    → (after_line (rest (w ++ s)) ≡ rest s) × (line_of (rest (w ++ s)) ≡ x)
line_on (transition_line_rule {ds₁ = f} {gap₁ = g} {label = l} {gap₂ = h} {ds₂ = t} df sg al sh dt) s =
    let j = line_joined f g l h t s in (
      ap (λ (y : List ℕ). after_line (rest y)) j ∙ at_line_end l df sg al sh dt s,
      ap (λ (y : List ℕ). line_of (rest y)) j ∙ line_says l df sg al sh dt s,
    )

-- ---- the first line

first_joined : (g f h t i n s : List ℕ)
    → (100 ∷ 101 ∷ 115
    ∷ (g ++ open_parenthesis
    ∷ (f ++ comma ∷ (h ++ (t ++ comma ∷ (i ++ (n ++ close_parenthesis ∷ line_feed_byte ∷ [])))))))
    ++ s
    ≡ 100 ∷ 101 ∷ 115
    ∷ (g ++ open_parenthesis
    ∷ (f ++ comma ∷ (h ++ (t ++ comma ∷ (i ++ (n ++ close_parenthesis ∷ line_feed_byte ∷ s))))))
first_joined g f h t i n s = simp append_assoc

abbrev FirstTaken : Rest → List ℕ → Type 0
FirstTaken x s = (w : List ℕ) × Took (λ (a : List ℕ). ReadsFirstLine a (first_line_of x)) x w s

abbrev FirstNumerals : Rest → Type 0
FirstNumerals x = IsNumeral (numeral_of (first_at x)) × IsNumeral (numeral_of (transitions_at x)) × IsNumeral (numeral_of (states_at x))

first_parts_lem : (x : Rest) {s : List ℕ} → after_first_line x ≡ rest s → FirstTaken x s × FirstNumerals x
unfolding after_first_line first_line_of
first_parts_lem x {s} q =
    let states_end = after_numeral (states_at x) in
    let closed = after_byte close_parenthesis states_end in
    let n = numeral_back (states_at x) (byte_back close_parenthesis states_end (byte_back line_feed_byte closed q)) in
    let transitions-end = after_numeral (transitions_at x) in
    let i = space_back (after_byte comma transitions-end) n.whole in
    let t = numeral_back (transitions_at x) (byte_back comma transitions-end i.1.whole) in
    let first-end = after_numeral (first_at x) in
    let h = space_back (after_byte comma first-end) t.whole in
    let f = numeral_back (first_at x) (byte_back comma first-end h.1.whole) in
    let d = after_byte 100 x in
    let des = after_byte 115 (after_byte 101 d) in
    let g = space_back des (byte_back open_parenthesis (after_space des) f.whole) in (
      (
        _,
        record {
          is =
              first_line_rule g.1.is (accepted_decimal (numeral_of (first_at x)) f.is) h.1.is
              (accepted_decimal (numeral_of (transitions_at x)) t.is) i.1.is
              (accepted_decimal (numeral_of (states_at x)) n.is);
          whole =
              byte_back 100 x (byte_back 101 d (byte_back 115 (after_byte 101 d) g.1.whole))
              ∙ ap rest
              (sym
              (first_joined g.0 (numeral_of (first_at x)) h.0 (numeral_of (transitions_at x)) i.0 (numeral_of (states_at x)) s));
        },
      ),
      (f.is, t.is, n.is),
    )

pub first_back : (x : Rest) {s : List ℕ} → after_first_line x ≡ rest s
    → (w : List ℕ) × Took (λ (a : List ℕ). ReadsFirstLine a (first_line_of x)) x w s
first_back x q = (first_parts_lem x q).0

pub first_line_read : (x : Rest) {s : List ℕ} → after_first_line x ≡ rest s
    → IsNumeral (numeral_of (first_at x)) × IsNumeral (numeral_of (transitions_at x)) × IsNumeral (numeral_of (states_at x))
first_line_read x q = (first_parts_lem x q).1

module _
    {g f h t i n : List ℕ}
    {first transitions states : ℕ}
    (sg : ShownSpace g)
    (df : Decimal f first)
    (sh : ShownSpace h)
    (dt : Decimal t transitions)
    (si : ShownSpace i)
    (dn : Decimal n states)
    (s : List ℕ) where
  -- what follows each part
  abbrev follows_states : List ℕ
  follows_states = close_parenthesis ∷ line_feed_byte ∷ s

  abbrev follows_transitions : List ℕ
  follows_transitions = comma ∷ (i ++ (n ++ follows_states))

  abbrev follows_first : List ℕ
  follows_first = comma ∷ (h ++ (t ++ follows_transitions))

  abbrev first_text : Rest
  first_text = rest (100 ∷ 101 ∷ 115 ∷ (g ++ open_parenthesis ∷ (f ++ follows_first)))

  at_first : first_at first_text ≡ rest (f ++ follows_first)
  at_first = ap (after_byte open_parenthesis) (space_on sg (open_parenthesis ∷ (f ++ follows_first)) refl)

  at_transitions : transitions_at first_text ≡ rest (t ++ follows_transitions)
  at_transitions =
      ap (λ (y : Rest). after_space (after_byte comma (after_numeral y))) at_first
      ∙ ap (λ (y : Rest). after_space (after_byte comma y)) (decimal_on df follows_first refl).0
      ∙ space_on sh (t ++ follows_transitions) (decimal_no_space dt follows_transitions)

  at_states : states_at first_text ≡ rest (n ++ follows_states)
  at_states =
      ap (λ (y : Rest). after_space (after_byte comma (after_numeral y))) at_transitions
      ∙ ap (λ (y : Rest). after_space (after_byte comma y)) (decimal_on dt follows_transitions refl).0
      ∙ space_on si (n ++ follows_states) (decimal_no_space dn follows_states)

  at_first_end : after_first_line first_text ≡ rest s
  unfolding after_first_line
  at_first_end =
      ap (λ (y : Rest). after_byte line_feed_byte (after_byte close_parenthesis (after_numeral y))) at_states
      ∙ ap (λ (y : Rest). after_byte line_feed_byte (after_byte close_parenthesis y)) (decimal_on dn follows_states refl).0

  first_says : first_line_of first_text ≡ record { first = first; transitions = transitions; states = states }
  unfolding first_line_of
  first_says = λ k.
      record {
        first = (ap (λ (y : Rest). decimal_value (numeral_of y)) at_first ∙ (decimal_on df follows_first refl).1) k;
        transitions = (ap (λ (y : Rest). decimal_value (numeral_of y)) at_transitions ∙ (decimal_on dt follows_transitions refl).1) k;
        states = (ap (λ (y : Rest). decimal_value (numeral_of y)) at_states ∙ (decimal_on dn follows_states refl).1) k;
      }

pub first_on : {w : List ℕ} {x : FirstLine} → ReadsFirstLine w x → (s : List ℕ)
    → (after_first_line (rest (w ++ s)) ≡ rest s) × (first_line_of (rest (w ++ s)) ≡ x)
first_on (first_line_rule {gap₁ = g} {ds₁ = f} {gap₂ = h} {ds₂ = t} {gap₃ = i} {ds₃ = n} sg df sh dt si dn) s =
    let j = first_joined g f h t i n s in (
      ap (λ (y : List ℕ). after_first_line (rest y)) j ∙ at_first_end sg df sh dt si dn s,
      ap (λ (y : List ℕ). first_line_of (rest y)) j ∙ first_says sg df sh dt si dn s,
    )
