-- `lend::lend` meets its contract: the reader's refusal, or what is lent of a whole sheet. Assumes nothing.
use Rattle.encode.specs.Lend.{five}
use Rattle.lend.proofs.LendingLaws.{lending_refused}
use Rattle.lend.proofs.lend.Goals as goal

pub lend_whole-requires : goal.lend_whole-requires
lend_whole-requires c = c.in-Ok.ensures

pub returns-in-Err : goal.returns-in-Err
returns-in-Err c = rw c.number.ensures (lending_refused (five c.args.head.now c.args.events.now c.args.bytes.now c.args.rows.now c.args.pairs.now) c.in-Err.ensures.says)
