-- `own::met_by` meets its contract, test by test. Assumes nothing.
use Rattle.basis.specs.Test.{◌and◌, non}
use Rattle.own.specs.Own.{met_in}
use Rattle.own.proofs.met_by.Goals as goal

pub returns : goal.returns
unfolding met_in ◌and◌ non
returns c = simp c.meets.ensures
