-- `answer::pack` meets its contract: in each arm the case of the answer is known, and the callees' contracts are the parts of `packed`.
-- Assumes nothing.
use Rattle.answer.proofs.pack.Goals as goal

pub returns-in-Refused : goal.returns-in-Refused
returns-in-Refused c = rw (c.in-Refused.is, c.word.ensures)

pub returns-in-Broken : goal.returns-in-Broken
returns-in-Broken c = rw (c.in-Broken.is, c.word-in-Broken.ensures, c.four_bytes.ensures, c.names_of.ensures)

pub returns-in-Consistent : goal.returns-in-Consistent
returns-in-Consistent c = rw (c.in-Consistent.is, c.word-in-Consistent.ensures, c.settled_number.ensures, c.four_bytes-in-Consistent.ensures, c.pair_of.ensures)
