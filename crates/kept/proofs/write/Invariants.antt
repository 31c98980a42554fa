-- `kept::write` meets its contract: the bars below `from` are written. The measure is what is left. Assumes nothing.
use Prim.Native.Nat.{◌-◌}
use Rattle.kept.specs.steps.Numbers.{numbers}
use Rattle.kept.proofs.NumbersLaws.{Writing}
use Rattle.kept.proofs.write.Given as goal

abbrev pub invariant-loop-i : goal.invariant-loop-i
invariant-loop-i l = Writing l.m l.bars l.initial.out l.at l.out l.from

abbrev pub decreases-loop-i : goal.decreases-loop-i
decreases-loop-i l = numbers - l.from
