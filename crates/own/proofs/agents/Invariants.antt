-- `own::agents` meets its contract: the masks have the first e events. The measure is what is left. Assumes nothing.
use mathlib.Core.Path.{◌≡◌}
use Prim.Native.Nat.{◌-◌, ◌≤◌}
use Rattle.sets.specs.Mask.{slots}
use Rattle.own.specs.steps.ByAgent.{agents_in}
use Rattle.own.proofs.agents.Given as goal

abbrev pub invariant-loop-e : goal.invariant-loop-e
invariant-loop-e l = (l.e ≤ l.m) × (l.m ≤ slots) × (l.by ≡ agents_in l.t l.e l.initial.by)

abbrev pub decreases-loop-e : goal.decreases-loop-e
decreases-loop-e l = l.m - l.e
