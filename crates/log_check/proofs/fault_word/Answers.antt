-- `log_check::fault_word` meets its contract: in each arm the case of the fault is known. Assumes nothing.
use Rattle.log_check.proofs.fault_word.Goals as goal

pub returns-in-WrongLength : goal.returns-in-WrongLength
returns-in-WrongLength c = rw (c.in-WrongLength.is, c.word.ensures)

pub returns-in-BadNumber : goal.returns-in-BadNumber
returns-in-BadNumber c = rw (c.in-BadNumber.is, c.word-in-BadNumber.ensures)

pub returns-in-TooEarly : goal.returns-in-TooEarly
returns-in-TooEarly c = rw (c.in-TooEarly.is, c.word-in-TooEarly.ensures)

pub returns-in-Barred : goal.returns-in-Barred
returns-in-Barred c = rw (c.in-Barred.is, c.word-in-Barred.ensures, c.four_bytes.ensures, c.names_of.ensures)
