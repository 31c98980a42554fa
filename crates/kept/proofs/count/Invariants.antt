-- `kept::count` meets its contract: n is the number of the bars below `from`. The measure is what is left. Assumes nothing.
use Prim.Native.Nat.{◌-◌}
use Rattle.kept.specs.steps.Numbers.{numbers}
use Rattle.kept.proofs.NumbersLaws.{Counting}
use Rattle.kept.proofs.count.Given as goal

abbrev pub invariant-loop-i : goal.invariant-loop-i
invariant-loop-i l = Counting l.m l.bars l.n l.from

abbrev pub decreases-loop-i : goal.decreases-loop-i
decreases-loop-i l = numbers - l.from
