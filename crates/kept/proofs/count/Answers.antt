-- `kept::count` meets its contract: n is the number of the bars below `from`. The measure is what is left. Assumes nothing.
use native.Mathlib.Omega.{arith}
use Rattle.kept.proofs.NumbersLaws.{count_start, count_skip, count_more, count_few, count_end}
use Rattle.kept.proofs.count.Goals as goal

pub loop-i-init : goal.loop-i-init
loop-i-init c = count_start

pub next-requires : goal.next-requires
next-requires c = c.loop-i.invariant.high

pub overflow_add-n : goal.overflow_add-n
overflow_add-n c = let a = count_few c.loop-i.invariant in let b = c.loop-i.invariant.high in omega arith

pub loop-i-smaller : goal.loop-i-smaller
loop-i-smaller c = let a = c.in-Some.ensures.0 in let b = c.in-Some.ensures.1.low in omega arith

pub loop-i-preserved : goal.loop-i-preserved
loop-i-preserved c =
    let n = c.in-Some.ensures.1 in
    count_more (count_skip c.loop-i.invariant n) c.in-Some.ensures.0 (n.is c.in-Some.ensures.0)

pub returns : goal.returns
returns c = count_end (count_skip c.loop-i.invariant c.in_default.ensures)
