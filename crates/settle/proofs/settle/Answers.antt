-- `settle::settle` meets its contract, by one way or the other. Assumes nothing.
use Rattle.std.proofs.Common.{ap, ◌∙◌}
use Rattle.settle.specs.Settle.{settled_in}
use Rattle.settle.proofs.settle.Goals as goal

pub returns-then-lone : goal.returns-then-lone
returns-then-lone c = c.lowest.ensures ∙ ap (settled_in c.args.t.now c.args.succ.now) c.least-m.ensures

pub returns : goal.returns
returns c = c.lowest-2.ensures ∙ ap (settled_in c.args.t.now c.args.succ.now) c.least-m.ensures
