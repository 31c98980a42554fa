-- `settle::loose` meets its contract, by the test. Assumes nothing.
use Rattle.std.proofs.Common.{◌%◌, sym, ◌∙◌}
use Rattle.sets.specs.Mask.{slots}
use Rattle.settle.proofs.SettleLaws.{free_shut, free_open}
use Rattle.settle.proofs.loose.Goals as goal

pub returns-then-has : goal.returns-then-has
returns-then-has c = free_shut c.args.t.now c.args.succ.now (c.args.e % slots) (c.args.d % slots) (sym c.has.ensures ∙ c.if-has.true)

pub returns : goal.returns
returns c =
    c.clashes.ensures
    ∙ free_open c.args.t.now c.args.succ.now (c.args.e % slots) (c.args.d % slots) (sym c.has.ensures ∙ c.if-has.false)
