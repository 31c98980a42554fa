-- `settle::clash` meets its contract, test by test. Assumes nothing.
use Rattle.std.proofs.Common.{Bool, not, ◌||◌, sym, ap, ◌∙◌}
use Rattle.basis.specs.Test.{◌and◌, ◌or◌, non}
use Rattle.basis.proofs.BoolLaws.{amp_and, bar_or, not_non}
use Rattle.settle.proofs.SettleLaws.{clash_apart, clash_meet}
use Rattle.settle.proofs.clash.Goals as goal

pub returns-then-not-overlap : goal.returns-then-not-overlap
returns-then-not-overlap c = clash_apart c.args.a c.args.b (sym c.overlap.ensures ∙ c.if-not-overlap.true)

pub returns : goal.returns
returns c =
    amp_and (c.writes.result || c.writes-2.result) (not c.both_sc.result)
    ∙ ap (λ (z : Bool). (c.writes.result || c.writes-2.result) and z) (not_non c.both_sc.result)
    ∙ ap (λ (z : Bool). z and non c.both_sc.result) (bar_or c.writes.result c.writes-2.result)
    ∙ (λ z. (c.writes.ensures z or c.writes-2.ensures z) and non (c.both_sc.ensures z))
    ∙ clash_meet c.args.a c.args.b (sym c.overlap.ensures ∙ c.if-not-overlap.false)
