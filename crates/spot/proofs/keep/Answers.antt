-- `spot::keep` meets its contract: beyond the last place nothing is kept. Assumes nothing.
use mathlib.Core.Path.{sym}
use lib.Seq.{set_out}
use Rattle.spot.proofs.keep.Goals as goal

pub returns-else-i-at : goal.returns-else-i-at
returns-else-i-at c = let a = c.args in sym (set_out a.at.now a.i _ c.if-i-at.false)
