-- `bars::reasons` meets its contract, test by test. Assumes nothing.
use Rattle.basis.specs.Test.{◌and◌}
use Rattle.bars.specs.Bars.{reasons_in}
use Rattle.bars.proofs.reasons.Goals as goal

pub returns : goal.returns
unfolding reasons_in ◌and◌
returns c = simp (c.only-x.ensures, c.only-y.ensures, c.only-z.ensures, c.both_sc.ensures, c.sc.ensures, c.sc-2.ensures)
