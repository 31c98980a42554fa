-- `rows::row` meets its contract, field by field. Assumes nothing.
use mathlib.Core.Path.{refl}
use Rattle.tables.specs.Tables.{row_in}
use Rattle.rows.proofs.row.Goals as goal

pub returns : goal.returns
unfolding row_in
returns c = refl
