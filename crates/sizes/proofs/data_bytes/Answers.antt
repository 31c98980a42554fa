-- `sizes::data_bytes` meets its contract, kind by kind. Assumes nothing.
use borrow.Author.Tests.{ne_eqb}
use Rattle.format.specs.Layout.{data_bytes}
use Rattle.sizes.proofs.data_bytes.Goals as goal

pub returns-in-3 : goal.returns-in-3
unfolding data_bytes
returns-in-3 c = simp c.in-3.is

pub returns-in_default : goal.returns-in_default
unfolding data_bytes
returns-in_default c = simp (ne_eqb _ _ c.in_default.in_default-own.rest.1)
