-- `torn::pair` meets its contract: the first of two tests together. Assumes nothing.
use Rattle.std.proofs.Common.{◌+◌, ◌*◌, ◌%◌, get_or, sym, ap, ◌∙◌}
use Rattle.std.specs.Prelude.{Some}
use Rattle.sets.specs.Mask.{slots}
use Rattle.cells.proofs.FirstLaws.{some_or, some_left, some_right}
use Rattle.torn.specs.Torn.{two_in, two_sources_in, pairs}
use Rattle.torn.proofs.pair.Goals as goal

pub returns-in_default : goal.returns-in_default
unfolding two_sources_in
returns-in_default c =
    let s = c.args.s.now in
    let e = c.args.e % slots in
    some_right (two_in (get_or s (2 * e) 0)) (two_in (get_or s (2 * e + 1) 0)) pairs c.two-in_default.result c.two-in_default.ensures (sym c.in_default.is ∙ c.two.ensures)

pub returns-in_default-two : goal.returns-in_default-two
unfolding two_sources_in
returns-in_default-two c =
    let s = c.args.s.now in
    let e = c.args.e % slots in
    some_left (two_in (get_or s (2 * e) 0)) (two_in (get_or s (2 * e + 1) 0)) pairs (Some c.in-Some.p) (sym c.in-Some.is ∙ c.two.ensures) (sym c.in_default-two.is ∙ c.two-2.ensures)

pub returns : goal.returns
unfolding two_sources_in
returns c =
    let s = c.args.s.now in
    let e = c.args.e % slots in
    ap Some c.least.ensures
    ∙ some_or (two_in (get_or s (2 * e) 0)) (two_in (get_or s (2 * e + 1) 0)) pairs c.in-Some.p c.in-Some-two.q (sym c.in-Some.is ∙ c.two.ensures) (sym c.in-Some-two.is ∙ c.two-2.ensures)
