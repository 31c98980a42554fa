-- `rules::rule24` meets its contract: no row before j has an event between. Assumes nothing.
use Rattle.std.proofs.Common.{◌≡◌, ℕ, ◌<◌, false}
use Rattle.rules.specs.Rules.{over_in}
use Rattle.rules.proofs.rule24.Given as goal

abbrev pub invariant-loop-j : goal.invariant-loop-j
invariant-loop-j l = (d : ℕ) → d < l.j → over_in l.t l.q l.succ l.pred d ≡ false
