-- `entries::pair_no` meets its contract: the pair at its place. Assumes nothing.
use Rattle.entries.proofs.pair_no.Goals as goal

pub returns : goal.returns
returns c = simp (c.pair_of.ensures, c.rest_at.ensures)
