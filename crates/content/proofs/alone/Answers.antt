-- `content::alone` meets its contract, test by test. Assumes nothing.
use Rattle.basis.specs.Test.{◌and◌}
use Rattle.content.specs.Content.{alone}
use Rattle.content.proofs.alone.Goals as goal

pub returns : goal.returns
unfolding alone ◌and◌
returns c = simp (c.inside.ensures, c.formed.ensures, c.tear_fits.ensures)
