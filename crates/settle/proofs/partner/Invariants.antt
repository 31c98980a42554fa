-- `settle::partner` meets its contract: of those to try, nothing is known yet of what is left. Assumes nothing.
use Rattle.std.proofs.Common.{◌%◌, get_or}
use Rattle.sets.specs.Mask.{slots}
use Rattle.cells.specs.Walk.{picked}
use Rattle.cells.proofs.FirstLaws.{Left}
use Rattle.settle.specs.steps.Ahead.{ahead_in, free_in}
use Rattle.settle.proofs.partner.Given as goal

abbrev pub invariant-loop-d : goal.invariant-loop-d
invariant-loop-d g l = Left (free_in (g.A.Accesses.table l.of) l.succ (l.e % slots)) (picked l.n (ahead_in (get_or l.succ (l.e % slots) 0) (l.e % slots))) l.d-iterator.left
