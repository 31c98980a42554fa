-- `before::add_inits` meets its contract: the first e events have been looked at. The measure is what is left. Assumes nothing.
use Prim.Native.Nat.{◌-◌, ◌≤◌}
use Rattle.before.specs.steps.Linked.{inits_in, Linking}
use Rattle.before.proofs.add_inits.Given as goal

abbrev pub invariant-loop-e : goal.invariant-loop-e
invariant-loop-e g l = (l.e ≤ l.n) × Linking l.n (inits_in (g.A.Accesses.table l.of) l.n l.e) l.initial.succ l.initial.cols l.succ l.cols

abbrev pub decreases-loop-e : goal.decreases-loop-e
decreases-loop-e g l = l.n - l.e
