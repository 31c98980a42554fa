-- `answer::pair_of` meets its contract: in each arm the case is known, and both sides compute. Assumes nothing.
use Rattle.answer.proofs.pair_of.Goals as goal

pub returns-in-Orderly : goal.returns-in-Orderly
returns-in-Orderly c = rw c.in-Orderly.is

pub returns-in-Unsettled : goal.returns-in-Unsettled
returns-in-Unsettled c = rw c.in-Unsettled.is
