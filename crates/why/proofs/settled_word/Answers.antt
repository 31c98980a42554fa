-- `why::settled_word` meets its contract: a case for each. Assumes nothing.
use Rattle.why.proofs.settled_word.Goals as goal

pub returns-in-Orderly : goal.returns-in-Orderly
returns-in-Orderly c = rw (c.in-Orderly.is, c.word.ensures, c.four_bytes.ensures)

pub returns-in-Unsettled : goal.returns-in-Unsettled
returns-in-Unsettled c = rw (c.in-Unsettled.is, c.word-in-Unsettled.ensures, c.four_bytes-in-Unsettled.ensures)
