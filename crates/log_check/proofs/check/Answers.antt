-- `log_check::check` meets its contract: the reader's refusal, or what is said of a whole sheet and the list. Assumes nothing.
use Rattle.log_check.proofs.CheckedLaws.{checked_refused}
use Rattle.log_check.proofs.check.Goals as goal

pub weigh-requires : goal.weigh-requires
weigh-requires c = (_, c.in-Ok.ensures)

pub returns-in-Err : goal.returns-in-Err
returns-in-Err c = rw c.number.ensures (checked_refused c.in-Err.ensures.says)
