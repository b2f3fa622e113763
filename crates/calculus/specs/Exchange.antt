-- Document 01: "Exchanging fixed points turns 7 into 8 or 8 into 7 in any choice of binder nodes, and changes no other byte".
use Rattle.std.specs.Prelude.{ℕ, ◌+◌, ◌*◌, ◌<◌, ◌≡◌, Bool, true, List, ◌⊎◌, length, eqb, Ok}
use Rattle.sheet.specs.Bytes.{byte, pick}
use Rattle.sheet.specs.Contents.{rule_offset, rule_body}
use Rattle.sheet.specs.Rule.{node_count}
use Rattle.sheet.specs.Reading.{sheet_check}
use Rattle.calculus.specs.KindMap.{map_rule_kinds, map_sheet_kinds}

-- "7 into 8 or 8 into 7"; a kind of another node stays
abbrev pub other_kind : ℕ → ℕ
other_kind k = pick (eqb k 7) 8 (pick (eqb k 8) 7 k)

-- "in any choice of binder nodes": the kind of node n, which is k
abbrev pub exchanged_kind : (ℕ → Bool) → ℕ → ℕ → ℕ
exchanged_kind choice n k = pick (choice n) (other_kind k) k

-- "and changes no other byte": of a rule body
abbrev pub exchanged_rule : (ℕ → Bool) → List ℕ → List ℕ
exchanged_rule choice r = map_rule_kinds (exchanged_kind choice) r

-- and of a sheet
unfoldable pub exchanged : (ℕ → Bool) → List ℕ → List ℕ
exchanged choice s = map_sheet_kinds (exchanged_kind choice) s

-- ---- the sentence, of the bytes of the whole sheet; shown by exchange_of_bytes of proofs/Exchange/Exchange.antt

-- the place in the sheet of the kind of node n: "Count N (1 byte, 1 to 64), then nodes of kind, x, y."
abbrev pub kind_place : List ℕ → ℕ → ℕ
kind_place s n = rule_offset s + (1 + 3 * n)

-- node n is one of the chosen "binder nodes": "Binders (kinds 7, 8)"
pub record ChosenBinder (choice : ℕ → Bool) (s : List ℕ) (n : ℕ) : Type 0 where
  pub among : n < node_count (rule_body s)
  pub binder : (byte s (kind_place s n) ≡ 7) ⊎ (byte s (kind_place s n) ≡ 8)
  pub chosen : choice n ≡ true

-- s' is s with the fixed points of the chosen binders exchanged
pub record FixedPointsExchanged (choice : ℕ → Bool) (s s' : List ℕ) : Type 0 where
  pub same_length : length s' ≡ length s
  -- "turns 7 into 8 or 8 into 7"
  pub least : (n : ℕ) → ChosenBinder choice s n → byte s (kind_place s n) ≡ 7 → byte s' (kind_place s n) ≡ 8
  pub greatest : (n : ℕ) → ChosenBinder choice s n → byte s (kind_place s n) ≡ 8 → byte s' (kind_place s n) ≡ 7
  -- "and changes no other byte"
  pub others : (i : ℕ) → ((n : ℕ) → ChosenBinder choice s n → i ≡ kind_place s n → ⊥) → byte s' i ≡ byte s i

-- of every accepted sheet and every choice
abbrev pub ExchangeOfBytes : Type 0
ExchangeOfBytes = (choice : ℕ → Bool) (s : List ℕ) → sheet_check s ≡ Ok tt → FixedPointsExchanged choice s (exchanged choice s)
