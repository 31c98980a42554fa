-- `log_check::pack` meets its contract: in each arm the case of the reply is known, and the callees' contracts are the parts of its word.
-- Assumes nothing.
use Rattle.log_check.proofs.pack.Goals as goal

pub returns-in-Refused : goal.returns-in-Refused
returns-in-Refused c = rw (c.in-Refused.is, c.word.ensures)

pub returns-in-Broken : goal.returns-in-Broken
returns-in-Broken c = rw (c.in-Broken.is, c.word-in-Broken.ensures, c.four_bytes.ensures, c.names_of.ensures)
