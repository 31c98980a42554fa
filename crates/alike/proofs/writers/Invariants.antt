-- `alike::writers` meets its contract: s has what passes of the events below v. The measure is what is left. Assumes nothing.
use mathlib.Core.Path.{◌≡◌}
use Prim.Native.Nat.{ℕ, ◌-◌, ◌+◌, ◌*◌, ◌%◌, ◌≤◌}
use Rattle.sets.specs.Mask.{slots}
use Rattle.cells.specs.Walk.{picked}
use Rattle.alike.specs.Ranges.{sc_writes}
use Rattle.alike.proofs.writers.Given as goal

abbrev pub invariant-loop-v : goal.invariant-loop-v
invariant-loop-v l = (l.v ≤ l.m) × (l.m ≤ slots) × (l.s ≡ picked l.v (λ (d : ℕ). sc_writes l.t (2 * d + l.b % 2)))

abbrev pub decreases-loop-v : goal.decreases-loop-v
decreases-loop-v l = l.m - l.v
