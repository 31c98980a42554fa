-- `slices::put_event` meets its contract: byte by byte what the calls answer. Assumes nothing.
use Rattle.slices.proofs.put_event.Goals as goal

pub returns : goal.returns
returns c = simp (c.agent_at-agent.ensures, c.data_bytes-n.ensures, c.shape_at-a.ensures) at c.put_bytes.ensures
