-- `plain::shape_here` meets its contract: the front of what is left says the shape. Assumes nothing.
use Prim.Native.Nat.{◌+◌, ◌-◌}
use mathlib.Core.Path.{◌∙◌}
use native.Mathlib.Omega.{arith}
use Rattle.format.specs.Field.{rest_at}
use Rattle.format.proofs.LayoutLaws.{event_high, shape_front}
use Rattle.plain.proofs.shape_here.Goals as goal

pub returns : goal.returns
returns c = c.shape_of.ensures ∙ shape_front c.args.edition (rest_at c.args.s.now c.args.p) (c.args.p + 3 + 6 - (c.args.p + 3)) (let h = event_high c.args.edition in omega arith)
