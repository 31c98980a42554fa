-- `sheet::reader::tally_after` meets its contract, by the tag. Assumes nothing.
use mathlib.Core.Path.{sym, ◌∙◌}
use native.Mathlib.Omega.{arith}
use borrow.Author.Tests.{ne_eqb}
use Rattle.sheet.proofs.reader.tally_after.Goals as goal

pub returns-in-2 : goal.returns-in-2
returns-in-2 c = (rw (sym c.byte-tag.ensures ∙ c.in-2.is) c.tallied.ensures.0, c.tallied.ensures.1)

pub returns-in_default : goal.returns-in_default
returns-in_default c = (simp (← c.byte-tag.ensures, ne_eqb _ _ c.in_default.in_default-own.rest.1), omega arith)
