-- The reader stands at 0, 2, 7, 12 and 17, always on the same sheet.
use Rattle.std.proofs.Common.{◌≡◌, ◌∙◌, drop, arith}
use Rattle.sheet.specs.Internal.Entry.{heading_at, entry_at, check_taken}
use Rattle.sheet.proofs.contents.check_in_order.Goals as goal

pub returns : goal.returns
returns c =
    let on_front = c.start-front.ensures.0 in
    let on_first = c.skip-first.ensures.0 ∙ on_front in
    let on_second = c.skip-second.ensures.0 ∙ on_first in
    let on_third = c.skip-third.ensures.0 ∙ on_second in
    let on_rest = c.skip-bodies.ensures.0 ∙ on_third in
    let first : c.skip-first.result.at ≡ 2 = omega arith in
    let second : c.skip-second.result.at ≡ 7 = omega arith in
    let third : c.skip-third.result.at ≡ 12 = omega arith in
    let rest : c.skip-bodies.result.at ≡ 17 = omega arith in
    let h : c.read_heading.result ≡ heading_at c.args.sheet.now 0 = c.read_heading.ensures ∙ (λ i. heading_at (on_front i).now (c.start-front.ensures.1 i)) in
    let p : c.read_entry.result ≡ entry_at c.args.sheet.now 2 = c.read_entry.ensures ∙ (λ i. entry_at (on_first i).now (first i)) in
    let a : c.read_entry-2.result ≡ entry_at c.args.sheet.now 7 = c.read_entry-2.ensures ∙ (λ i. entry_at (on_second i).now (second i)) in
    let r : c.read_entry-3.result ≡ entry_at c.args.sheet.now 12 = c.read_entry-3.ensures ∙ (λ i. entry_at (on_third i).now (third i)) in
    let b : c.read_rest.result.now ≡ drop 17 c.args.sheet.now = c.read_rest.ensures ∙ (λ i. drop (rest i) (on_rest i).now) in
    c.check_taken.ensures ∙ (λ i. check_taken (h i) (p i) (a i) (r i) (b i))
