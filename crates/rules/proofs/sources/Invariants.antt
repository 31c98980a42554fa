-- `rules::sources` meets its contract: the sources of the first j rows are noted. The measure is what is left. Assumes nothing.
use mathlib.Core.Path.{◌≡◌}
use Prim.Native.Nat.{◌-◌, ◌≤◌}
use Rattle.tables.specs.Tables.{row_room}
use Rattle.torn.specs.Torn.{sources_in}
use Rattle.rules.proofs.sources.Given as goal

abbrev pub invariant-loop-j : goal.invariant-loop-j
invariant-loop-j l = (l.j ≤ l.m) × (l.m ≤ row_room) × (l.masks ≡ sources_in l.t l.q l.j l.initial.masks)

abbrev pub decreases-loop-j : goal.decreases-loop-j
decreases-loop-j l = l.m - l.j
