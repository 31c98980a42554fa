-- `settle::loose_first` meets its contract: first accesses count alone, and they clash where both halves hold. Assumes nothing.
use Rattle.std.proofs.Common.{◌%◌, sym, ◌∙◌, arith}
use Rattle.sets.specs.Mask.{slots}
use Rattle.settle.proofs.NearLaws.{first_apart, first_near}
use Rattle.settle.proofs.loose_first.Goals as goal

pub returns-then-not-near : goal.returns-then-not-near
returns-then-not-near c =
    first_apart c.args.t.now c.args.succ.now c.requires (c.args.e % slots) (c.args.d % slots) (omega arith) (omega arith) c.shape-a.result c.shape-b.result c.shape-a.ensures c.shape-b.ensures
    (sym c.near.ensures ∙ c.if-not-near.true)

pub returns : goal.returns
returns c =
    first_near c.args.t.now c.args.succ.now c.requires (c.args.e % slots) (c.args.d % slots) (omega arith) (omega arith) c.shape-a.result c.shape-b.result c.shape-a.ensures c.shape-b.ensures
    (sym c.near.ensures ∙ c.if-not-near.false) c.has.result c.wants.result c.has.ensures c.wants.ensures
