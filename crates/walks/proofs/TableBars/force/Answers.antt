-- `force` of a table of bars, by `force::by_table`. Assumes nothing.
use Rattle.walks.proofs.TableBars.force.Goals as goal

pub returns : goal.returns
returns c = λ h. c.by_table.ensures.fit (h.1, h.2)
