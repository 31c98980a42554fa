-- `content::init_alone` meets its contract, test by test. Assumes nothing.
use Rattle.basis.specs.Test.{◌and◌}
use Rattle.content.proofs.init_alone.Goals as goal

pub returns : goal.returns
unfolding ◌and◌
returns c = simp (c.inside.ensures, c.initial.ensures, c.init_formed.ensures)
