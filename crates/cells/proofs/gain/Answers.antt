-- `cells::gain` meets its contract: beyond the end nothing is written. Assumes nothing.
use mathlib.Core.Path.{sym, ap}
use Prim.Native.Nat.{ℕ}
use lib.ListN.{set}
use lib.Seq.{set_out}
use Rattle.cells.specs.Cells.{gaining}
use Rattle.cells.proofs.gain.Goals as goal

pub returns-then-i-masks : goal.returns-then-i-masks
unfolding gaining
returns-then-i-masks c = let a = c.args in ap (λ (x : ℕ). set a.masks.now a.i x) c.with.ensures

pub returns-else-i-masks : goal.returns-else-i-masks
unfolding gaining
returns-else-i-masks c = let a = c.args in sym (set_out a.masks.now a.i _ c.if-i-masks.false)
