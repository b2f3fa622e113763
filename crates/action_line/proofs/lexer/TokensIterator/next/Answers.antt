-- `action_line::lexer::TokensIterator::next` meets its contract.
use Rattle.std.proofs.Common.{refl, ap, length, arith, rules}
use Rattle.action_line.specs.declared.Token.TheVariants.{Open, Close, Invalid}
use Rattle.action_line.proofs.Steps.Words.{no_token, found, no_space, word_some, word_first, open_first, close_first, other_first}
use Rattle.action_line.proofs.lexer.TokensIterator.next.Goals as goal

pub returns-in_err-first-clause-steps : goal.returns-in_err-first-clause-steps
returns-in_err-first-clause-steps c =
    let none = no_token c.args.self.now.rest.now _ _ c.space_length-spaces.ensures.value c.split_at.ensures.back c.in_err-first.ensures.cases in
    rw c.from_residual.ensures (none, none)

pub returns-then-is_word_byte-clause-steps : goal.returns-then-is_word_byte-clause-steps
returns-then-is_word_byte-clause-steps c =
    let n = c.word_length.ensures in
    let parts = c.split_at-then-is_word_byte.ensures in
    let some = word_some c.in_ok-first.ensures.cases.0 c.if-is_word_byte.ensures in
    found c.args.self.now.rest.now _ _ c.space_length-spaces.ensures.value c.split_at.ensures.back _ _
    (word_first c.split_at.result.1.now c.word_length.result n.value (rw n.value some) n.within parts.front parts.back) c.token_of.ensures

pub returns-then-is_word_byte-clause-goes : goal.returns-then-is_word_byte-clause-goes
returns-then-is_word_byte-clause-goes c = let n = ap length (returns-then-is_word_byte-clause-steps c) in search rules

pub returns-in-40-clause-steps : goal.returns-in-40-clause-steps
returns-in-40-clause-steps c =
    found c.args.self.now.rest.now _ _ c.space_length-spaces.ensures.value c.split_at.ensures.back Open _
    (open_first c.in_ok-first.ensures.cases.0 c.if-is_word_byte.ensures c.in-40.is) refl

pub returns-in-40-clause-goes : goal.returns-in-40-clause-goes
returns-in-40-clause-goes c = let n = ap length (returns-in-40-clause-steps c) in search rules

pub returns-in-41-clause-steps : goal.returns-in-41-clause-steps
returns-in-41-clause-steps c =
    found c.args.self.now.rest.now _ _ c.space_length-spaces.ensures.value c.split_at.ensures.back Close _
    (close_first c.in_ok-first.ensures.cases.0 c.if-is_word_byte.ensures c.in-41.is) refl

pub returns-in-41-clause-goes : goal.returns-in-41-clause-goes
returns-in-41-clause-goes c = let n = ap length (returns-in-41-clause-steps c) in search rules

pub returns-in_default-clause-steps : goal.returns-in_default-clause-steps
returns-in_default-clause-steps c =
    let line = c.in_ok-first.ensures.cases.0 in
    let apart = no_space c.args.self.now.rest.now _ _ c.space_length-spaces.ensures.value c.split_at.ensures.back line in
    found c.args.self.now.rest.now _ _ c.space_length-spaces.ensures.value c.split_at.ensures.back Invalid _
    (other_first line c.if-is_word_byte.ensures apart (λ q. omega arith) (λ q. omega arith)) refl

pub returns-in_default-clause-goes : goal.returns-in_default-clause-goes
returns-in_default-clause-goes c = let n = ap length (returns-in_default-clause-steps c) in search rules
