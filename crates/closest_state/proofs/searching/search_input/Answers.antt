-- What was read has the text of its file.
use Rattle.std.proofs.Common.{List, ℕ, subst}
use Rattle.text.specs.Placing.{Puts}
use Rattle.closest_state.proofs.Cutting.{held_text}
use Rattle.closest_state.proofs.searching.search_input.Goals as goal

pub returns-clause-puts_text_of_file : goal.returns-clause-puts_text_of_file
returns-clause-puts_text_of_file c = λ file h. subst
    (λ (l : List ℕ). Puts l c.put_text.result c.args.out.now c.put_text.new.out)
    (held_text file c.args.input.now c.args.n c.requires.input_len h) c.put_text.ensures.puts
