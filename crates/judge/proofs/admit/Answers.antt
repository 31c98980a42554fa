-- `judge::admit` meets its contract: 12, 13, or what is weighed. Assumes nothing.
use Rattle.front.proofs.LaidLaws.{laid_inits}
use Rattle.judge.proofs.JudgeLaws.{short_scratch, short_order, admits}
use Rattle.judge.proofs.WeighLaws.{weighed_judged}
use Rattle.judge.proofs.admit.Goals as goal

pub overflow_sub-n : goal.overflow_sub-n
overflow_sub-n c = laid_inits c.requires.1.handed.laid

pub returns-then-scratch-need : goal.returns-then-scratch-need
returns-then-scratch-need c = short_scratch c.requires.1.handed c.needed-need.ensures c.if-scratch-need.true

pub returns-then-order-x : goal.returns-then-order-x
returns-then-order-x c = short_order c.requires.1.handed c.needed-need.ensures c.if-scratch-need.false c.if-order-x.true

pub returns : goal.returns
returns c = weighed_judged (admits c.requires.1.handed c.needed-need.ensures c.if-scratch-need.false c.if-order-x.false) c.requires.1.events c.requires.1.rows c.weigh.ensures
