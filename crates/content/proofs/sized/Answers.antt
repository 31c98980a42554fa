-- `content::sized` meets its contract, width by width. Assumes nothing.
use native.Mathlib.Omega.{arith}
use Rattle.basis.specs.Test.{◌and◌, ◌or◌, non}
use Rattle.format.specs.Shape.{sc}
use Rattle.content.specs.Content.{sized}
use Rattle.content.proofs.WidthsLaws.{by_width}
use Rattle.content.proofs.sized.Goals as goal

pub returns : goal.returns
unfolding sized ◌and◌ ◌or◌ non
returns c = simp c.sc.ensures (by_width c.args.a.start c.args.a.width (omega arith) (non (sc c.args.a)))
