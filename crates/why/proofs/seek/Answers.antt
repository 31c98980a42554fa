-- `why::seek` meets its contract: the bars of the tables, and what is kept of them. Assumes nothing.
use Rattle.why.proofs.ExplainedLaws.{keeps_by}
use Rattle.why.proofs.seek.Goals as goal

pub returns : goal.returns
returns c = keeps_by c.fill.ensures c.keep.ensures
