-- `kept::write` meets its contract: the bars below `from` are written. The measure is what is left. Assumes nothing.
use native.Mathlib.Omega.{arith}
use Rattle.kept.proofs.NumbersLaws.{writing_start, writing_skip, writing_room, writing_low, writing_more, writing_end}
use Rattle.kept.proofs.write.Goals as goal

pub loop-i-init : goal.loop-i-init
loop-i-init c = writing_start c.args.out.now

pub next-requires : goal.next-requires
next-requires c = c.loop-i.invariant.high

pub store-requires : goal.store-requires
store-requires c = let n = c.in-Some.ensures.1 in writing_room (writing_skip c.loop-i.invariant n) c.in-Some.ensures.0 (n.is c.in-Some.ensures.0) c.requires

pub overflow_add-at : goal.overflow_add-at
overflow_add-at c = let a = writing_low c.loop-i.invariant in let b = c.loop-i.invariant.high in omega arith

pub loop-i-smaller : goal.loop-i-smaller
loop-i-smaller c = let a = c.in-Some.ensures.0 in let b = c.in-Some.ensures.1.low in omega arith

pub loop-i-preserved : goal.loop-i-preserved
loop-i-preserved c =
    let n = c.in-Some.ensures.1 in
    writing_more (writing_skip c.loop-i.invariant n) c.in-Some.ensures.0 (n.is c.in-Some.ensures.0) c.requires c.store.ensures

pub shape_of-out : goal.shape_of-out
shape_of-out c = c.loop-i.invariant.written.size

pub returns : goal.returns
returns c = writing_end (writing_skip c.loop-i.invariant c.in_default.ensures)
