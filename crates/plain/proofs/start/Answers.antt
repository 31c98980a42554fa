-- `plain::start` meets its contract: blank counts. Assumes nothing.
use Rattle.plain.proofs.start.Goals as goal

pub returns : goal.returns
returns c = simp c.blank.ensures
