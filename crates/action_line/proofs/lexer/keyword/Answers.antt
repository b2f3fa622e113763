-- `action_line::lexer::keyword` meets its contract.
use Rattle.std.proofs.Common.{refl, sym, ap}
use Rattle.action_line.specs.Internal.Lexemes.{capped}
use Rattle.action_line.proofs.Steps.Words.{told, keyword_is}
use Rattle.action_line.proofs.lexer.keyword.Goals as goal

pub returns-then-eq : goal.returns-then-eq
returns-then-eq c =
    sym (ap capped (keyword_is c.args.word.now c.requires.1 (told _ _ _ c.if-eq.ensures c.as_slice.ensures) refl refl refl refl))

pub returns-then-eq-2 : goal.returns-then-eq-2
returns-then-eq-2 c =
    sym (ap capped (keyword_is c.args.word.now c.requires.1 (told _ _ _ c.if-eq.ensures c.as_slice.ensures) (told _ _ _ c.if-eq-2.ensures c.as_slice-else-eq.ensures) refl refl refl))

pub returns-then-eq-3 : goal.returns-then-eq-3
returns-then-eq-3 c =
    sym (ap capped (keyword_is c.args.word.now c.requires.1 (told _ _ _ c.if-eq.ensures c.as_slice.ensures) (told _ _ _ c.if-eq-2.ensures c.as_slice-else-eq.ensures) (told _ _ _ c.if-eq-3.ensures c.as_slice-else-eq-2.ensures) refl refl))

pub returns-then-eq-4 : goal.returns-then-eq-4
returns-then-eq-4 c =
    sym (ap capped (keyword_is c.args.word.now c.requires.1 (told _ _ _ c.if-eq.ensures c.as_slice.ensures) (told _ _ _ c.if-eq-2.ensures c.as_slice-else-eq.ensures) (told _ _ _ c.if-eq-3.ensures c.as_slice-else-eq-2.ensures) (told _ _ _ c.if-eq-4.ensures c.as_slice-else-eq-3.ensures) refl))

pub returns-then-eq-5 : goal.returns-then-eq-5
returns-then-eq-5 c =
    sym (ap capped (keyword_is c.args.word.now c.requires.1 (told _ _ _ c.if-eq.ensures c.as_slice.ensures) (told _ _ _ c.if-eq-2.ensures c.as_slice-else-eq.ensures) (told _ _ _ c.if-eq-3.ensures c.as_slice-else-eq-2.ensures) (told _ _ _ c.if-eq-4.ensures c.as_slice-else-eq-3.ensures) (told _ _ _ c.if-eq-5.ensures c.as_slice-else-eq-4.ensures)))

pub returns-else-eq-5 : goal.returns-else-eq-5
returns-else-eq-5 c =
    sym (ap capped (keyword_is c.args.word.now c.requires.1 (told _ _ _ c.if-eq.ensures c.as_slice.ensures) (told _ _ _ c.if-eq-2.ensures c.as_slice-else-eq.ensures) (told _ _ _ c.if-eq-3.ensures c.as_slice-else-eq-2.ensures) (told _ _ _ c.if-eq-4.ensures c.as_slice-else-eq-3.ensures) (told _ _ _ c.if-eq-5.ensures c.as_slice-else-eq-4.ensures)))
