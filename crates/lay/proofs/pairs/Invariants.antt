-- `lay::pairs` meets its contract: the first j pairs are there. The measure is what is left. Assumes nothing.
use mathlib.Core.Path.{◌≡◌}
use Prim.Native.Nat.{◌-◌, ◌≤◌}
use Rattle.tables.specs.Tables.{pair_room}
use Rattle.lay.specs.Lay.{pairs_put}
use Rattle.lay.proofs.pairs.Given as goal

abbrev pub invariant-loop-j : goal.invariant-loop-j
invariant-loop-j l = (l.j ≤ l.m) × (l.m ≤ pair_room) × (l.p ≡ pairs_put l.s l.x l.j l.initial.p)

abbrev pub decreases-loop-j : goal.decreases-loop-j
decreases-loop-j l = l.m - l.j
