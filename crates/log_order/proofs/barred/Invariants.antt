-- `log_order::barred` meets its contract: no row before j has an event that it bars. Assumes nothing.
use Rattle.std.proofs.Common.{◌≡◌, ℕ, ◌<◌, false}
use Rattle.log_order.specs.steps.Masks.{crosses_in}
use Rattle.log_order.proofs.barred.Given as goal

abbrev pub invariant-loop-j : goal.invariant-loop-j
invariant-loop-j l = (d : ℕ) → d < l.j → crosses_in l.t l.eq l.succ l.pred l.earlier l.q d ≡ false
