-- `limits::room_for` meets its contract, by the agent. Assumes nothing.
use borrow.Author.Tests.{ne_eqb}
use Rattle.content.specs.Content.{room_in}
use Rattle.limits.proofs.room_for.Goals as goal

pub returns-in-0 : goal.returns-in-0
unfolding room_in
returns-in-0 c = simp c.in-0.is

pub returns-in_default : goal.returns-in_default
unfolding room_in
returns-in_default c = simp (ne_eqb _ _ c.in_default.in_default-own.rest.1)
