-- `placing::lowest` meets its contract: each event that can be placed is left, or is not below those left. Assumes nothing.
use mathlib.Core.Bool.{false}
use Prim.Native.Nat.{ℕ}
use lib.ListN.{get_or}
use Rattle.placing.specs.Placing.{Free}
use Rattle.placing.proofs.UntriedLaws.{Untried}
use Rattle.placing.proofs.lowest.Given as goal

abbrev pub invariant-loop-v : goal.invariant-loop-v
invariant-loop-v l = Untried l.s l.m l.from (λ (d : ℕ). Free l.before l.bars (get_or l.writers d 0) l.s d) (λ (d : ℕ). false) l.v-iterator.left
