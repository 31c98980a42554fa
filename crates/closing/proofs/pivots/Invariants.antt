-- `closing::pivots` meets its contract: the first e rows have been looked at (`Looked`). Assumes nothing.
use Rattle.closing.proofs.SweepLaws.{Looked}
use Rattle.closing.proofs.pivots.Given as goal

abbrev pub invariant-loop-e : goal.invariant-loop-e
invariant-loop-e l = Looked l.e l.rows l.into l.from
