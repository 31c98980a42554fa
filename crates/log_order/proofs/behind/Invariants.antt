-- `log_order::behind` meets its contract: of what is left nothing is known yet. Assumes nothing.
use Rattle.std.proofs.Common.{ℕ, ◌%◌, get_or}
use Rattle.sets.specs.Mask.{slots, mem}
use Rattle.cells.proofs.FirstLaws.{Left}
use Rattle.log_order.proofs.behind.Given as goal

abbrev pub invariant-loop-v : goal.invariant-loop-v
invariant-loop-v l = Left (λ (v : ℕ). mem (get_or l.earlier v 0) (l.w % slots)) l.m l.v-iterator.left
