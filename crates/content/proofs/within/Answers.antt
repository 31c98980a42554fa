-- `content::within` meets its contract by computation. Assumes nothing.
use mathlib.Core.Path.{refl}
use Rattle.basis.specs.Test.{◌and◌}
use Rattle.content.specs.Content.{within}
use Rattle.content.proofs.within.Goals as goal

pub returns : goal.returns
unfolding within ◌and◌
returns c = refl
