-- `rules::writes_byte` meets its contract. Assumes nothing.
use mathlib.Core.Path.{◌∙◌}
use Rattle.basis.proofs.BoolLaws.{amp_and}
use Rattle.tables.specs.Tables.{writes_in}
use Rattle.rules.proofs.writes_byte.Goals as goal

pub returns : goal.returns
unfolding writes_in
returns c = amp_and c.covers.result c.writes.result ∙ rw (c.covers.ensures, c.writes.ensures, c.at-b.ensures)
