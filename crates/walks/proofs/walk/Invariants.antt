-- `walks::walk` meets its contract: where it stands (`Stand`) and what it knows there (`Seek`). With a step on one set less is not marked,
-- and with a step back the way is shorter. Assumes nothing.
use mathlib.Core.Path.{◌≡◌}
use Prim.Native.Nat.{◌-◌, ◌+◌, ◌*◌}
use lib.ListN.{length, take}
use Rattle.orders.specs.Tables.{tabled}
use Rattle.orders.proofs.StandLaws.{Stand, left}
use Rattle.orders.proofs.SeekLaws.{Seek}
use Rattle.walks.proofs.walk.Given as goal

abbrev pub invariant-loop-s : goal.invariant-loop-s
invariant-loop-s g l =
    let P = tabled l.m l.before (g.B.Bars.masks l.bars) in
    Stand P l.k l.initial.table l.table l.path l.s l.depth l.from × Seek P l.k (take l.depth l.path) l.table × (length l.path ≡ length l.initial.path)

abbrev pub decreases-loop-s : goal.decreases-loop-s
decreases-loop-s g l = left (l.m - l.k) l.table * 64 + l.depth
