-- `prepare::order` meets its contract: the pairs, then happens-before. Assumes nothing.
use Rattle.prepare.proofs.order.Goals as goal

pub returns : goal.returns
returns c = rw c.pairs.ensures at c.fill.ensures
