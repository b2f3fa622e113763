-- The first line is put, and behind it the lines of the way, whose buffer is long enough.
use Rattle.std.proofs.Common.{ℕ, ◌*◌, ◌≤◌, List, length, arith}
use lib.ListN.{replicate}
use Rattle.graph.specs.Search.{most_states}
use Rattle.closest_state.proofs.Answers.{found_near}
use Rattle.closest_state.proofs.Texts.{lines_required, found_puts}
use Rattle.closest_state.proofs.searching.put_found.Goals as goal

abbrev way_buffer : List ℕ
way_buffer = replicate (3 * most_states) 0

long : {n : ℕ} → n ≤ most_states → 3 * n ≤ length way_buffer
long h = omega arith

pub put_way-requires : goal.put_way-requires
put_way-requires c =
    let s = c.args.sheet.now in
    lines_required s c.requires.0 way_buffer c.shortest_way.ensures (long (found_near s c.requires.0)) c.args.out.now c.requires.1 c.put_fails-end.ensures

pub returns : goal.returns
returns c =
    let s = c.args.sheet.now in
    found_puts s c.requires.0 way_buffer c.shortest_way.ensures (long (found_near s c.requires.0)) c.args.out.now c.requires.1 c.put_fails-end.ensures c.put_way.ensures
