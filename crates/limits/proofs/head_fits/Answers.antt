-- `limits::head_fits` meets its contract, test by test. Assumes nothing.
use Rattle.basis.specs.Test.{◌and◌}
use Rattle.content.specs.Content.{head_fits}
use Rattle.limits.proofs.head_fits.Goals as goal

pub returns : goal.returns
unfolding head_fits ◌and◌
returns c = simp (c.within.ensures, c.within-2.ensures, c.within-3.ensures)
