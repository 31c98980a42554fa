-- `limits::pair_below` meets its contract: the derived order takes the first markers first. Assumes nothing.
use Rattle.std.proofs.Common.{arith}
use Rattle.std.proofs.lemmas.Grind.{common_steps}
use Rattle.basis.specs.Test.{◌and◌, ◌or◌}
use Rattle.format.specs.Execution.{pair_below}
use Rattle.limits.proofs.pair_below.Goals as goal

pub returns : goal.returns
unfolding pair_below ◌and◌ ◌or◌
returns c = let e = c.lt.ensures in grind (arith, common_steps, e)
