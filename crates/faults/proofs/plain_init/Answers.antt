-- `faults::plain_init` meets its contract: test by test; what passes is an init without a fault, where it stands first. Assumes nothing.
use Rattle.faults.proofs.PlainLaws.{init_short, init_all}
use borrow.Author.Tests.{le-ltb, lt-ltb}
use Rattle.faults.proofs.plain_init.Goals as goal

pub returns-then-short : goal.returns-then-short
returns-then-short c = init_short c.args.s.now c.args.p c.args.x (lt-ltb _ _ c.if-short.true)

pub returns : goal.returns
returns c = init_all c.args.s.now c.args.p c.args.x (le-ltb _ _ c.if-short.false) c.shape_at-a.result c.shape_at-a.ensures c.agent_at.result c.byte.result c.agent_at.ensures c.byte.ensures c.event_ends.result c.init_alone-fits.result c.event_ends.ensures c.init_alone-fits.ensures
