-- `sift::run` meets its contract. Assumes nothing.
use Rattle.sift.specs.Clean.{run_of}
use Rattle.sift.proofs.run.Goals as goal

pub returns : goal.returns
unfolding run_of
returns c = simp (c.join.ensures, c.whole.ensures, c.only.ensures)
