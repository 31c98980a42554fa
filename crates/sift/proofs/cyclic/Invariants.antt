-- `sift::cyclic` meets its contract: of the first e events it is known. The measure is what is left. Assumes nothing.
use mathlib.Core.Path.{◌≡◌}
use mathlib.Core.Bool.{true}
use Prim.Native.Nat.{ℕ, ◌-◌, ◌≤◌}
use Rattle.sets.specs.Mask.{slots}
use Rattle.torn.specs.steps.Noticed.{Marks, Among}
use Rattle.rules.specs.Rules.{cyclic_in}
use Rattle.sift.proofs.cyclic.Given as goal

abbrev pub invariant-loop-e : goal.invariant-loop-e
invariant-loop-e l = (l.e ≤ slots) × Marks l.c (Among l.e (λ (d : ℕ). cyclic_in l.succ d ≡ true))

abbrev pub decreases-loop-e : goal.decreases-loop-e
decreases-loop-e l = slots - l.e
