-- `judge::judge` meets its contract: the reader's refusal, or what is judged of a whole sheet. Assumes nothing.
use Rattle.judge.proofs.JudgeLaws.{refused_sheet}
use Rattle.judge.proofs.judge.Goals as goal

pub admit-requires : goal.admit-requires
admit-requires c = (_, c.in-Ok.ensures)

pub returns-in-Err : goal.returns-in-Err
returns-in-Err c = rw c.number.ensures (refused_sheet c.in-Err.ensures.says)
