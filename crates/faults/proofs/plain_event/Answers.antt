-- `faults::plain_event` meets its contract: test by test; what passes is an event without a fault, where its tear byte fits. Assumes nothing.
use Rattle.faults.proofs.PlainLaws.{other_short, other_all}
use borrow.Author.Tests.{le-ltb, lt-ltb}
use Rattle.faults.proofs.plain_event.Goals as goal

pub returns-then-short : goal.returns-then-short
returns-then-short c = other_short c.args.s.now c.args.p c.args.x (lt-ltb _ _ c.if-short.true)

pub returns : goal.returns
returns c = other_all c.args.s.now c.args.p c.args.x (le-ltb _ _ c.if-short.false) c.shape_at-a.result c.shape_at-a.ensures c.agent_at.result c.byte.result c.agent_at.ensures c.byte.ensures c.event_ends.result c.other_alone-fits.result c.event_ends.ensures c.other_alone-fits.ensures
