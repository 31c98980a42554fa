-- `plain::tear_plain` meets its contract: where the rest fits, the rule is that the start is aligned, the width not 8 or the mode sc, the kind no marker's.
-- Assumes nothing.
use native.Mathlib.Omega.{arith}
use Rattle.basis.specs.Test.{◌and◌, non}
use Rattle.content.proofs.WidthsLaws.{whole_same}
use Rattle.spot.proofs.TallyLaws.{tear_number}
use Rattle.plain.proofs.tear_plain.Goals as goal

pub returns : goal.returns
unfolding ◌and◌ non
returns c = rw c.marks.ensures (tear_number _ c.args.a.kind c.args.a.mode c.args.a.start c.args.a.width (whole_same c.args.a (omega arith) c.requires))
