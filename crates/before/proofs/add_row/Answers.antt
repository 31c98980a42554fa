-- `before::add_row` meets its contract: a row that makes no step or an old one, and one that makes a new one. Assumes nothing.
use mathlib.Core.Path.{ap, ◌∙◌}
use Prim.Native.Nat.{◌%◌}
use native.Mathlib.Nat.{mod-eq_of_lt}
use native.Mathlib.Omega.{arith}
use lib.ListN.{get_or}
use Rattle.sets.specs.Mask.{slots, mem}
use Rattle.before.proofs.RowLaws.{row_old, row_new}
use Rattle.before.proofs.add_row.Goals as goal

pub bounds-succ-a : goal.bounds-succ-a
bounds-succ-a g c = let z = c.requires.1 in omega (arith, z)

pub returns-then-not-adds : goal.returns-then-not-adds
returns-then-not-adds g c =
    let r = c.args.r in
    let is = c.has.ensures ∙ ap (mem (get_or c.args.succ.now (r.writer % slots) 0)) (mod-eq_of_lt (omega arith)) in
    row_old c.args.n c.requires.0 c.args.succ.now c.args.cols.now c.requires.1 c.requires.2 (g.A.Accesses.table c.args.of.now) r c.syncs.result c.has.result c.syncs.ensures is c.if-not-adds.true

pub returns : goal.returns
returns g c =
    let r = c.args.r in
    let is = c.has.ensures ∙ ap (mem (get_or c.args.succ.now (r.writer % slots) 0)) (mod-eq_of_lt (omega arith)) in
    row_new c.args.n c.requires.0 c.args.succ.now c.args.cols.now c.requires.1 c.requires.2 (g.A.Accesses.table c.args.of.now) r c.syncs.result c.has.result c.syncs.ensures is c.if-not-adds.false c.step.ensures
