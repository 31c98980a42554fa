-- `reach::tally` meets its contract: where it stands (`Stand`) and what it has counted (`Tally`). With a step on one set less is not marked,
-- and with a step back the way is shorter. Assumes nothing.
use mathlib.Core.Path.{◌≡◌}
use Prim.Native.Nat.{◌≤◌, ◌-◌, ◌+◌, ◌*◌}
use lib.ListN.{length, take}
use Rattle.orders.specs.Tables.{tabled}
use Rattle.orders.proofs.StandLaws.{Stand, left}
use Rattle.reach.proofs.TallyLaws.{Tally}
use Rattle.reach.proofs.tally.Given as goal

abbrev pub invariant-loop-e : goal.invariant-loop-e
invariant-loop-e l = Stand (tabled l.m l.before l.bars) l.k l.initial.table l.table l.path l.s l.depth l.from × Tally (tabled l.m l.before l.bars) l.k (take l.depth l.path) l.table l.n × (length l.path ≡ length l.initial.path) × (l.n ≤ l.limit)

abbrev pub decreases-loop-e : goal.decreases-loop-e
decreases-loop-e l = left (l.m - l.k) l.table * 64 + l.depth
