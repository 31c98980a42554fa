-- `torn::named` meets its contract: no event before e has two sources. Assumes nothing.
use Rattle.std.proofs.Common.{◌≡◌, ℕ, ◌<◌, false}
use Rattle.torn.specs.Torn.{torn_in}
use Rattle.torn.proofs.named.Given as goal

abbrev pub invariant-loop-e : goal.invariant-loop-e
invariant-loop-e l = (d : ℕ) → d < l.e → torn_in l.s d ≡ false
