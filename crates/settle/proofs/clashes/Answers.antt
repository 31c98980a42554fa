-- `settle::clashes` meets its contract, access by access. Assumes nothing.
use Rattle.std.proofs.Common.{◌%◌, arith}
use Rattle.sets.specs.Mask.{slots}
use Rattle.tables.proofs.TablesLaws.{across_first, across_none, across_rest}
use Rattle.settle.specs.Settle.{clashing, clash_in}
use Rattle.settle.proofs.SettleLaws.{clash_left, clash_right}
use Rattle.settle.proofs.clashes.Goals as goal

pub returns-then-clash : goal.returns-then-clash
unfolding clash_in
returns-then-clash c = across_first clashing c.args.t.now (c.args.e % slots) (c.args.d % slots) (omega arith) (omega arith) c.shape-a.result c.shape-c.result c.shape-a.ensures c.shape-c.ensures c.clash.result c.clash.ensures c.if-clash.true

pub returns-then-b-f : goal.returns-then-b-f
unfolding clash_in
returns-then-b-f c = across_none clashing c.args.t.now (c.args.e % slots) (c.args.d % slots) (omega arith) (omega arith) c.shape-a.result c.shape-c.result c.shape-a.ensures c.shape-c.ensures c.clash.result c.clash.ensures c.shape-b.result c.shape-f.result c.shape-b.ensures c.shape-f.ensures c.if-clash.false clash_left clash_right c.if-b-f.true

pub returns : goal.returns
unfolding clash_in
returns c = across_rest clashing c.args.t.now (c.args.e % slots) (c.args.d % slots) (omega arith) (omega arith) c.shape-a.result c.shape-c.result c.shape-a.ensures c.shape-c.ensures c.clash.result c.clash.ensures c.shape-b.result c.shape-f.result c.shape-b.ensures c.shape-f.ensures c.if-clash.false c.clash-2.result c.clash-3.result c.clash-4.result c.clash-2.ensures c.clash-3.ensures c.clash-4.ensures
