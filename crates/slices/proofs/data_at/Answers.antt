-- `slices::data_at` meets its contract, call by call. Assumes nothing.
use Rattle.slices.proofs.data_at.Goals as goal

pub returns : goal.returns
returns c = simp (c.part.ensures, c.event_bytes.ensures, c.rest_at-v.ensures, c.data_bytes-n.ensures, c.shape_at.ensures)
