-- `closing::sweep` meets its contract: the rows so far are rewritten (`Rewritten`), each by what both pivots lead to, which is what pivot j makes of
-- what pivot k makes of it (`absorb_then`). Assumes nothing.
use Rattle.closing.specs.steps.Sweep.{succ_of, pivot}
use Rattle.closing.proofs.SweepLaws.{Rewritten}
use Rattle.closing.proofs.sweep.Given as goal

abbrev pub invariant-loop-x : goal.invariant-loop-x
invariant-loop-x l = Rewritten (pivot l.j (pivot l.k (succ_of l.fn.rows))) l.n l.x-index l.initial.x-items l.x-items
