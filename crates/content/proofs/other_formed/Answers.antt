-- `content::other_formed` meets its contract, test by test. Assumes nothing.
use Rattle.basis.specs.Test.{◌and◌}
use Rattle.content.specs.Content.{other_formed}
use Rattle.content.proofs.other_formed.Goals as goal

pub returns : goal.returns
unfolding other_formed ◌and◌
returns c = simp (c.within.ensures, c.kind_fits.ensures)
