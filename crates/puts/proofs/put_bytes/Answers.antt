-- `puts::put_bytes` meets its contract. The invariant is the contract at the place reached. Assumes nothing.
use Rattle.puts.proofs.PutLaws.{puts_none, puts_more, puts_all}
use Rattle.puts.proofs.put_bytes.Goals as goal

pub loop-b-init : goal.loop-b-init
loop-b-init c = puts_none c.args.at c.args.out.now

pub loop-b-preserved : goal.loop-b-preserved
loop-b-preserved c = puts_more c.args.bytes.now c.loop-b.b-index c.loop-b-test.true c.loop-b.invariant c.put-next.ensures

pub returns : goal.returns
returns c = puts_all c.args.bytes.now c.loop-b.b-index c.loop-b-test.false c.loop-b.invariant
