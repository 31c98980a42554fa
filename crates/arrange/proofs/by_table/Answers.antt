-- `arrange::by_table` meets its contract: the table of bars, and the search. Assumes nothing.
use Rattle.arrange.proofs.ArrangedLaws.{answered_by}
use Rattle.arrange.proofs.by_table.Goals as goal

pub returns : goal.returns
returns c = answered_by c.fill.ensures c.first.ensures
