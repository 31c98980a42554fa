-- `puts::put_events` meets its contract. The invariant is the contract at the place reached. Assumes nothing.
use Rattle.puts.proofs.PutLaws.{puts_none, puts_then}
use Rattle.puts.proofs.NumbersLaws.{events_more, events_all}
use Rattle.puts.proofs.put_events.Goals as goal

pub loop-e-init : goal.loop-e-init
loop-e-init c = puts_none c.args.at c.args.out.now

pub loop-e-preserved : goal.loop-e-preserved
loop-e-preserved c = rw (events_more c.args.events.now c.loop-e.e-index c.loop-e-test.true) (puts_then c.loop-e.invariant (rw c.from.ensures at c.put_spaced-next.ensures))

pub returns : goal.returns
returns c = rw (events_all c.args.events.now c.loop-e.e-index c.loop-e-test.false) at c.loop-e.invariant
