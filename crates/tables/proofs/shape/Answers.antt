-- `tables::shape` meets its contract, field by field. Assumes nothing.
use mathlib.Core.Path.{refl}
use Rattle.tables.specs.Tables.{shape_in}
use Rattle.tables.proofs.shape.Goals as goal

pub returns : goal.returns
unfolding shape_in
returns c = refl
