-- `ranges::both_sc` meets its contract, test by test. Assumes nothing.
use Rattle.basis.specs.Test.{◌and◌}
use Rattle.format.specs.Shape.{both_sc}
use Rattle.ranges.proofs.both_sc.Goals as goal

pub returns : goal.returns
unfolding both_sc ◌and◌
returns c = simp (c.sc.ensures, c.sc-2.ensures, c.equal.ensures)
