-- `log_order::bad` meets its contract: what stands before j passes not, and s is its set. Assumes nothing.
use Rattle.std.proofs.Common.{◌≡◌, ℕ, ◌<◌, false}
use Rattle.log_order.specs.Listed.{bad_at}
use Rattle.log_order.specs.steps.Masks.{Stood}
use Rattle.log_order.proofs.bad.Given as goal

abbrev pub invariant-loop-j : goal.invariant-loop-j
invariant-loop-j l = Stood l.list l.j l.s × ((d : ℕ) → d < l.j → bad_at l.m l.list d ≡ false)
