-- The call: each course of it gives the answer and leaves the output that the definitions say.
use Prim.Native.Nat.{ℕ}
use mathlib.Core.Path.{◌≡◌, refl, sym, ◌∙◌, ap, subst}
use mathlib.Core.Bool.{Bool, true, false, false≢true}
use mathlib.Core.List.{List}
use lib.ListN.{length}
use Rattle.sheet.specs.Contents.{actions_body, rule_body}
use Rattle.sheet.specs.Actions.{entry_count}
use Rattle.sheet.specs.Reading.{sheet_check}
use Rattle.sheet.specs.WellFormed.{WellFormedRule}
use Rattle.std.specs.Prelude.{Err, Ok}
use Rattle.sheet.specs.declared.Refusal.{Refusal}
use Rattle.sheet.proofs.Acceptance.Parts.{actions_kept, rule_kept}
use Rattle.patterns.specs.Patterns.{Reading, malformed, readable, reading_of}
use Rattle.patterns.specs.Translating.{Translated, body_of, leaves, output_after, translated_of, reported_translation, Translates}
use Rattle.patterns.specs.Internal.Passing.{is_readable}
use Rattle.patterns.specs.Internal.Answering.{Readable, BodyAnswered}
use Rattle.patterns.specs.declared.TranslateError.TheVariants.{Malformed, Refused}
use Rattle.patterns.proofs.Reading.Passing.{readable_bytes}
use Rattle.patterns.proofs.Reading.Readings.{readings_exactly}
use Rattle.patterns.proofs.Statements.Answers.{reading_on, answers_refused, answers_malformed, tree_answer}

-- an answer, and the output that it leaves
answered : (s p out : List ℕ) (x : Translated) {out' : List ℕ} → x ≡ translated_of s p (length out) → out' ≡ leaves (body_of s (reading_on s p)) out x
    → Translates s p out x out'
unfolding output_after
answered s p out x e q = (e, (ap reported_translation e, q ∙ ap (leaves (body_of s (reading_on s p)) out) e))

-- what the check of the pattern says, by the entries of the sheet
pub readable_is : (s p : List ℕ) {a : List ℕ} {entries : ℕ} {b c : Bool} → a ≡ actions_body s → entries ≡ entry_count a → b ≡ is_readable (reading_of entries p)
    → b ≡ c → is_readable (reading_on s p) ≡ c
readable_is s p i j k l = ap (λ (n : ℕ). is_readable (reading_of n p)) (sym (j ∙ ap entry_count i)) ∙ sym k ∙ l

pub translates_refused : (s p out : List ℕ) {x : Refusal} → sheet_check s ≡ Err x → Translates s p out (Err (Refused x)) out
translates_refused s p out {x} e = answered s p out (Err (Refused x)) (sym (answers_refused s p (length out) e)) refl

pub translates_malformed : (s p out : List ℕ) → sheet_check s ≡ Ok tt → is_readable (reading_on s p) ≡ false → Translates s p out (Err Malformed) out
translates_malformed s p out passed q = answered s p out (Err Malformed) (sym (answers_malformed s p (length out) passed (none (reading_on s p) q))) refl
  where
    none : (r : Reading) → is_readable r ≡ false → r ≡ malformed
    none malformed e = refl
    none (readable every R) e = absurd (false≢true (sym e))

module _ (s p : List ℕ) (passed : sheet_check s ≡ Ok tt) (q : is_readable (reading_on s p) ≡ true) where
  pub call_readable : {r : List ℕ} → r ≡ rule_body s → Readable r p
  call_readable {r = body} e =
      let r = readable_bytes (reading_on s p) q in
      record {
        entries = entry_count (actions_body s);
        kept = subst (WellFormedRule (entry_count (actions_body s))) (sym e) (rule_kept s passed);
        few_entries = (actions_kept s passed).few;
        every = r.0;
        pattern = r.1;
        bytes = ((readings_exactly (entry_count (actions_body s)) p r.0 r.1).0 r.2).0;
      }

  pub translates_readable : {r : List ℕ} → r ≡ rule_body s → {out out' : List ℕ} {x : Translated} → BodyAnswered r p out x out'
      → Translates s p out x out'
  translates_readable e {out} {out'} {x} b =
      let a = subst (λ (v : List ℕ). BodyAnswered v p out x out') e b in
      let r = readable_bytes (reading_on s p) q in
      let bytes = ((readings_exactly (entry_count (actions_body s)) p r.0 r.1).0 r.2).0 in
      answered s p out x (a.answer r.0 r.1 bytes ∙ sym (tree_answer s p (length out) passed r.2))
      (a.left r.0 r.1 bytes ∙ ap (λ (v : Reading). leaves (body_of s v) out x) (sym r.2))
