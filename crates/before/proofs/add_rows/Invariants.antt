-- `before::add_rows` meets its contract: the first j rows have been looked at. The measure is what is left. Assumes nothing.
use Prim.Native.Nat.{◌-◌, ◌≤◌}
use Rattle.tables.specs.Tables.{row_room}
use Rattle.before.specs.Before.{row_steps_in}
use Rattle.before.specs.steps.Linked.{Linking}
use Rattle.before.proofs.add_rows.Given as goal

abbrev pub invariant-loop-j : goal.invariant-loop-j
invariant-loop-j g l = (l.j ≤ l.m) × (l.m ≤ row_room) × Linking l.n (row_steps_in (g.A.Accesses.table l.of) l.q l.j) l.initial.succ l.initial.cols l.succ l.cols

abbrev pub decreases-loop-j : goal.decreases-loop-j
decreases-loop-j g l = l.m - l.j
