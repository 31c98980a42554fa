-- `force::lead` meets its contract: what is copied stands there. Assumes nothing.
use Rattle.std.proofs.Common.{arith}
use Rattle.force.proofs.ForcedLaws.{led_copied}
use Rattle.force.proofs.lead.Goals as goal

pub returns : goal.returns
returns c = let a = c.args in rw c.copy_from_slice.ensures.after (led_copied a.k a.m a.before.now a.f.now c.requires.0 c.requires.1 (omega arith) c.requires.2)
