-- `first_order::possible` meets its contract: by the walk. Assumes nothing.
use Rattle.orders.proofs.AnswerLaws.{told_sought}
use Rattle.first_order.proofs.possible.Goals as goal

pub returns : goal.returns
returns c = told_sought c.seek.ensures
