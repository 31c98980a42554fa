-- `closing::absorb` meets its contract: by the test for the pivot. Assumes nothing.
use mathlib.Core.Path.{sym, ◌∙◌}
use Prim.Native.Nat.{◌%◌}
use Rattle.sets.specs.Mask.{slots}
use Rattle.closing.proofs.SweepLaws.{absorb_in, absorb_out}
use Rattle.closing.proofs.absorb.Goals as goal

pub returns-then-has : goal.returns-then-has
returns-then-has c = let a = c.args in sym (absorb_in a.x (a.k % slots) a.row (sym c.has.ensures ∙ c.if-has.true))

pub returns-else-has : goal.returns-else-has
returns-else-has c = let a = c.args in sym (absorb_out a.x (a.k % slots) a.row (sym c.has.ensures ∙ c.if-has.false))
