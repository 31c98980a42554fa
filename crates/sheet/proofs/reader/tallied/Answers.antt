-- `sheet::reader::tallied` meets its contract: the bytes and the agent of the event. Assumes nothing.
use native.Mathlib.Omega.{arith}
use Rattle.spot.proofs.TallyLaws.{tally_made}
use Rattle.sheet.proofs.reader.tallied.Goals as goal

pub returns : goal.returns
returns c = (tally_made c.args.s.now c.args.p c.args.t c.read_width.result c.noted.result (rw c.shape_at-a.ensures at c.read_width.ensures.0) (rw c.agent_at.ensures at c.noted.ensures), (let w = c.read_width.ensures.1 in omega arith))
