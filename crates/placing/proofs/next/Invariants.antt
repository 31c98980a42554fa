-- `placing::next` meets its contract: each event that can be placed leads to a marked set, or is left. Assumes nothing.
use Prim.Native.Nat.{ℕ, ◌%◌}
use lib.ListN.{get_or}
use Rattle.sets.specs.Mask.{slots}
use Rattle.placing.specs.Placing.{Free, is_seen}
use Rattle.placing.proofs.UntriedLaws.{Untried}
use Rattle.placing.proofs.next.Given as goal

abbrev pub invariant-loop-e : goal.invariant-loop-e
invariant-loop-e l = Untried l.s l.m l.from (λ (d : ℕ). Free l.before l.bars (get_or l.writers d 0) l.s d) (is_seen (l.k % slots) l.table l.s) l.e-iterator.left
