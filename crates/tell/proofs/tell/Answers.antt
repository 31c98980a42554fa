-- `tell::tell` meets its contract: the judge's answer, and the line of it with the events that are placed. Assumes nothing.
use mathlib.Core.Path.{sym}
use lib.Seq.{length-take-le}
use Rattle.tell.proofs.tell.Goals as goal

pub slice_bounds-line-end-2 : goal.slice_bounds-line-end-2
slice_bounds-line-end-2 c = sym (length-take-le _ _ c.count-n.ensures.within)

pub returns : goal.returns
returns c = record { answer = c.judge-answer.result; judged = c.judge-answer.ensures; lined = rw c.count-n.ensures.counted at c.line.ensures }
