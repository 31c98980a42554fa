-- `why::pack` meets its contract: a case for each. Assumes nothing.
use Rattle.why.proofs.pack.Goals as goal

pub returns-in-Refused : goal.returns-in-Refused
returns-in-Refused c = rw (c.in-Refused.is, c.word.ensures)

pub returns-in-Broken : goal.returns-in-Broken
returns-in-Broken c = rw (c.in-Broken.is, c.word-in-Broken.ensures, c.four_bytes.ensures, c.names_of.ensures)

pub returns-in-Consistent : goal.returns-in-Consistent
returns-in-Consistent c = rw (c.in-Consistent.is, c.settled_word.ensures)

pub returns-in-Kept : goal.returns-in-Kept
returns-in-Kept c = rw (c.in-Kept.is, c.word-in-Kept.ensures)
