-- `rules::differ` meets its contract: of the first j rows it is known whether one has two bytes that differ. The measure is what is left.
-- Assumes nothing.
use Prim.Native.Nat.{◌-◌, ◌≤◌}
use Rattle.tables.specs.Tables.{row_room}
use Rattle.torn.specs.steps.Noticed.{Marks}
use Rattle.rules.specs.steps.Stirred.{Unlike}
use Rattle.rules.proofs.differ.Given as goal

abbrev pub invariant-loop-j : goal.invariant-loop-j
invariant-loop-j l = (l.j ≤ l.m) × (l.m ≤ row_room) × Marks l.c (Unlike l.q l.j)

abbrev pub decreases-loop-j : goal.decreases-loop-j
decreases-loop-j l = l.m - l.j
