-- `puts::put` meets its contract: one store is `puts_one`, and none is `puts_over`. Assumes nothing.
use Rattle.puts.proofs.PutLaws.{puts_one, puts_over}
use Rattle.puts.proofs.put.Goals as goal

pub returns-then-at-out : goal.returns-then-at-out
returns-then-at-out c = puts_one c.args.b c.args.at c.args.out.now c.if-at-out.true

pub returns : goal.returns
returns c = puts_over c.args.b c.args.at c.args.out.now c.if-at-out.false
