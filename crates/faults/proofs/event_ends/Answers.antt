-- `faults::event_ends` meets its contract, test by test. Assumes nothing.
use Rattle.basis.specs.Test.{◌and◌}
use Rattle.faults.proofs.event_ends.Goals as goal

pub returns : goal.returns
unfolding ◌and◌
returns c = simp (c.length_at-len.ensures, c.event_bytes.ensures, c.data_bytes.ensures)
