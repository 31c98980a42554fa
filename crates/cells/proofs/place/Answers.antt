-- `cells::place` meets its contract: beyond the end nothing is written. Assumes nothing.
use mathlib.Core.Path.{sym}
use lib.Seq.{set_out}
use Rattle.cells.proofs.place.Goals as goal

pub returns-else-i-masks : goal.returns-else-i-masks
returns-else-i-masks c = let a = c.args in sym (set_out a.masks.now a.i _ c.if-i-masks.false)
