-- `why::explain` meets its contract: the reader's refusal, or what is said of a whole sheet. Assumes nothing.
use Rattle.why.proofs.ExplainedLaws.{refused_sheet}
use Rattle.why.proofs.explain.Goals as goal

pub admit-requires : goal.admit-requires
admit-requires c = (_, c.in-Ok.ensures)

pub returns-in-Err : goal.returns-in-Err
returns-in-Err c = rw c.number.ensures (refused_sheet c.in-Err.ensures.says)
