-- `cells::spread` meets its contract: the loop stands where what is left has not yet gained. Assumes nothing.
use Rattle.std.proofs.Common.{◌%◌}
use Rattle.sets.specs.Mask.{slots}
use Rattle.cells.specs.Cells.{gain_at}
use Rattle.cells.proofs.WalkLaws.{Stand}
use Rattle.cells.proofs.spread.Given as goal

abbrev pub invariant-loop-v : goal.invariant-loop-v
invariant-loop-v l = Stand l.m (gain_at (l.w % slots) (l.e % slots)) l.initial.masks l.v-iterator.left l.masks
