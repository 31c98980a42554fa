-- `sizes::event_bytes` meets its contract, edition by edition. Assumes nothing.
use borrow.Author.Tests.{ne_eqb}
use Rattle.format.specs.Layout.{event_bytes}
use Rattle.sizes.proofs.event_bytes.Goals as goal

pub returns-in-2 : goal.returns-in-2
unfolding event_bytes
returns-in-2 c = simp c.in-2.is

pub returns-in_default : goal.returns-in_default
unfolding event_bytes
returns-in_default c = simp (ne_eqb _ _ c.in_default.in_default-own.rest.1)
