-- `rows::pair` meets its contract, field by field. Assumes nothing.
use mathlib.Core.Path.{refl}
use Rattle.tables.specs.Tables.{pair_in}
use Rattle.rows.proofs.pair.Goals as goal

pub returns : goal.returns
unfolding pair_in
returns c = refl
