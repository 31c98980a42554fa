-- `bars::add` meets its contract: the bars of the first j rows are added. The measure is what is left. Assumes nothing.
use mathlib.Core.Path.{◌≡◌}
use Prim.Native.Nat.{◌-◌, ◌≤◌}
use Rattle.tables.specs.Tables.{row_room}
use Rattle.bars.specs.Bars.{bars_in}
use Rattle.bars.proofs.add.Given as goal

abbrev pub invariant-loop-j : goal.invariant-loop-j
invariant-loop-j l = (l.j ≤ l.m) × (l.m ≤ row_room) × (l.bars ≡ bars_in l.t l.eq l.succ l.pred l.q l.j l.initial.bars)

abbrev pub decreases-loop-j : goal.decreases-loop-j
decreases-loop-j l = l.m - l.j
