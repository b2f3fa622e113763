-- `closest_state::searching::search` meets its contract.
use mathlib.Core.Path.{ap, ◌∙◌}
use Rattle.std.proofs.lemmas.Result.{err_from_is_err_and}
use Rattle.closest.specs.Finding.{closest_of}
use Rattle.closest_state.specs.Program.{own_table, answer_after, program_of}
use Rattle.closest_state.proofs.searching.search.Goals as goal

pub returns-in_err-clear : goal.returns-in_err-clear
unfolding program_of own_table
returns-in_err-clear c =
    let p = err_from_is_err_and c.from_residual.result c.from_residual.ensures.1 in
    rw (p.1, p.2) (ap (answer_after _) c.in_err-clear.ensures.0)

pub returns : goal.returns
unfolding program_of own_table
returns c =
    c.find_closest.ensures.0 ∙ (ap (closest_of c.args.sheet.now) c.clear.ensures.1.1 ∙ ap (answer_after _) c.in_ok-clear.ensures.0)
