-- `content::init_formed` meets its contract, test by test. Assumes nothing.
use Rattle.basis.specs.Test.{◌and◌}
use Rattle.content.specs.Content.{init_formed}
use Rattle.content.proofs.init_formed.Goals as goal

pub returns : goal.returns
unfolding init_formed ◌and◌
returns c = simp c.within.ensures
