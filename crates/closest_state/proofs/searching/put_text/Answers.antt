-- Each answer has its text.
use Rattle.std.proofs.Common.{sym, ◌∙◌, arith, ◌≡◌, ap, ap₂}
use Rattle.std.specs.Prelude.{Option, None, Some, Ok}
use Rattle.closest.specs.declared.Failing.{Failing}
use Rattle.text.specs.RefusalLine.{refusal_line}
use Rattle.text.proofs.Placing.{puts_within, puts_counted}
use Rattle.text.proofs.RefusalLines.{refusal_at_start}
use Rattle.closest_state.specs.Program.{program_of, program_text}
use Rattle.closest_state.proofs.Texts.{holds_text, refused_text}
use Rattle.closest_state.proofs.searching.put_text.Goals as goal

pub put_found-requires : goal.put_found-requires
put_found-requires c =
    let visits = c.in-Ok.closest.visits in
    let e : Ok (record { first = Some c.in-Some.found; visits = visits }) ≡ program_of c.args.sheet.now =
    ap (λ (o : Option Failing). Ok (record { first = o; visits = visits })) (sym c.in-Some.is) ∙ sym c.in-Ok.is ∙ c.search.ensures in
    (e, c.requires)

pub returns-in-Some : goal.returns-in-Some
returns-in-Some c =
    let put = c.put_found.ensures in
    record { prefix_len = puts_within (program_text c.args.sheet.now) c.args.out.now put; puts = put }

pub returns-in-None : goal.returns-in-None
returns-in-None c =
    let visits = c.in-Ok.closest.visits in
    let e : c.search.result ≡ Ok (record { first = None; visits = visits }) =
    c.in-Ok.is ∙ ap (λ (o : Option Failing). Ok (record { first = o; visits = visits })) c.in-None.is in
    let both = puts_counted c.args.out.now (holds_text c.args.sheet.now c.search.ensures e) c.put_holds.ensures in
    record { prefix_len = both.0; puts = both.1 }

pub returns-in-Err : goal.returns-in-Err
returns-in-Err c =
    let put = c.put_refusal.ensures in
    let line = ap₂ refusal_line c.number.ensures c.place.ensures ∙ refused_text c.args.sheet.now c.search.ensures c.in-Err.is in
    let both = puts_counted c.args.out.now line (refusal_at_start _ _ c.args.out.now (omega (arith, c.requires)) (put.value, put.out_after)) in
    record { prefix_len = both.0; puts = both.1 }
