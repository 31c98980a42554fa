-- `why::admit` meets its contract: 12, or what is weighed. Assumes nothing.
use Rattle.front.proofs.LaidLaws.{laid_inits}
use Rattle.why.proofs.ExplainedLaws.{short_scratch}
use Rattle.why.proofs.admit.Goals as goal

pub overflow_sub-n : goal.overflow_sub-n
overflow_sub-n c = laid_inits c.requires.1.handed.laid

pub returns-then-scratch-need : goal.returns-then-scratch-need
returns-then-scratch-need c = short_scratch c.requires.1.handed c.needed-need.ensures c.if-scratch-need.true
