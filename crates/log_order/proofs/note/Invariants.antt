-- `log_order::note` meets its contract: earlier holds what stands before each of the numbers so far. Assumes nothing.
use mathlib.Core.Path.{◌≡◌}
use lib.ListN.{length}
use Rattle.sets.specs.Mask.{slots}
use Rattle.log_order.specs.steps.Masks.{Stood, Ranked}
use Rattle.log_order.proofs.note.Given as goal

abbrev pub invariant-loop-number : goal.invariant-loop-number
invariant-loop-number l = (length l.earlier ≡ slots) × Stood l.list l.number-index l.s × Ranked l.list l.number-index l.earlier
