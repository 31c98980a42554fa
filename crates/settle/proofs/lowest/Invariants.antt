-- `settle::lowest` meets its contract: no event before e has a partner, and `behind` has the events from e on. Assumes nothing.
use Rattle.std.proofs.Common.{◌≡◌, ℕ, ◌<◌, false}
use Rattle.sets.specs.Mask.{Rest}
use Rattle.settle.specs.Settle.{loose_in}
use Rattle.settle.proofs.lowest.Given as goal

abbrev pub invariant-loop-e : goal.invariant-loop-e
invariant-loop-e g l = ((x : ℕ) → x < l.e → loose_in (g.A.Accesses.table l.of) l.succ l.n x ≡ false) × Rest 0 l.e l.n l.behind
