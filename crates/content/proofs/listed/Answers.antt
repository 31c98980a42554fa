-- `content::listed` meets its contract: by the widths' set and the bits of the start. Assumes nothing.
use native.Mathlib.Omega.{arith}
use Rattle.basis.specs.Test.{◌and◌, ◌or◌, non}
use Rattle.content.proofs.WidthsLaws.{listed_same}
use Rattle.content.proofs.listed.Goals as goal

pub returns : goal.returns
unfolding ◌and◌ ◌or◌ non
returns c = simp (c.widths.ensures, c.has-wide.ensures, c.sc.ensures) (listed_same c.args.a (omega arith))
