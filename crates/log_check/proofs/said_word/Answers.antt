-- `log_check::said_word` meets its contract: in each arm the case is known. Assumes nothing.
use Rattle.log_check.proofs.said_word.Goals as goal

pub returns-in-Err : goal.returns-in-Err
returns-in-Err c = rw (c.in-Err.is, c.fault_word.ensures)
