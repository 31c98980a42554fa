-- `kept::thin` meets its contract: below `from` the walk on the table is the walk on the list. The measure is what is left. Assumes nothing.
use Prim.Native.Nat.{◌-◌, ◌≤◌}
use mathlib.Core.Path.{◌≡◌}
use Rattle.kept.specs.steps.Numbers.{numbers}
use Rattle.kept.proofs.ThinLaws.{Standing}
use Rattle.kept.proofs.thin.Given as goal

abbrev pub invariant-loop-i : goal.invariant-loop-i
invariant-loop-i l = (l.from ≤ numbers) × Standing l.k l.m l.before l.initial.bars l.bars l.from × (l.scratch ≡ l.initial.scratch)

abbrev pub decreases-loop-i : goal.decreases-loop-i
decreases-loop-i l = numbers - l.from
