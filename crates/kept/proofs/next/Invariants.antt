-- `kept::next` meets its contract: from the start on below i there is no bar. The measure is what is left. Assumes nothing.
use Prim.Native.Nat.{◌-◌}
use Rattle.kept.specs.steps.Numbers.{numbers}
use Rattle.kept.proofs.NumbersLaws.{Passed}
use Rattle.kept.proofs.next.Given as goal

abbrev pub invariant-loop-i : goal.invariant-loop-i
invariant-loop-i l = Passed l.m l.bars l.from l.i

abbrev pub decreases-loop-i : goal.decreases-loop-i
decreases-loop-i l = numbers - l.i
