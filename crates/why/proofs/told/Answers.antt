-- `why::told` meets its contract: a case for each finding. Assumes nothing.
use Rattle.why.proofs.told.Goals as goal

pub returns-in-Order : goal.returns-in-Order
returns-in-Order c = rw (c.in-Order.is, c.settle.ensures)

pub returns-in-Bars : goal.returns-in-Bars
returns-in-Bars c = rw c.in-Bars.is
