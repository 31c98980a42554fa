-- `walks::descend` meets its contract: each event was the lowest that could be placed (`Going`). The way gets longer. Assumes nothing.
use mathlib.Core.Path.{◌≡◌}
use Prim.Native.Nat.{◌-◌}
use lib.ListN.{length}
use Rattle.orders.specs.Tables.{tabled}
use Rattle.orders.proofs.DescendLaws.{Going}
use Rattle.walks.proofs.descend.Given as goal

abbrev pub invariant-loop-s : goal.invariant-loop-s
invariant-loop-s g l = Going (tabled l.m l.before (g.B.Bars.masks l.bars)) l.k l.path l.s l.depth × (length l.path ≡ length l.initial.path)

abbrev pub decreases-loop-s : goal.decreases-loop-s
decreases-loop-s g l = l.m - l.depth
