-- `plain::clear` meets its contract: the first i places are zero, and the rest is as it was. The measure is what is left. Assumes nothing.
use mathlib.Core.Path.{sym, ap, ◌∙◌}
use mathlib.Core.List.{List}
use Prim.Native.Nat.{ℕ}
use native.Mathlib.Omega.{arith}
use borrow.Author.Fill.{fill_none, fill_more}
use lib.ListN.{set, length-set}
use Rattle.spot.proofs.TabledLaws.{all_cleared}
use Rattle.plain.proofs.clear.Goals as goal

pub loop-i-init : goal.loop-i-init
loop-i-init c = (omega arith, c.requires, fill_none _ 0)

pub loop-i-preserved : goal.loop-i-preserved
loop-i-preserved c = (omega arith, length-set c.loop-i.at c.loop-i.i 0 ∙ c.loop-i.invariant.1, ap (λ (t : List ℕ). set t c.loop-i.i 0) c.loop-i.invariant.2 ∙ fill_more c.loop-i.i 0 c.args.at.now (omega (arith, c.requires)))

pub shape_of-at : goal.shape_of-at
shape_of-at c = c.loop-i.invariant.1 ∙ sym c.requires

pub returns : goal.returns
returns c = c.loop-i.invariant.2 ∙ all_cleared c.args.at.now c.loop-i.i (omega arith) c.requires
