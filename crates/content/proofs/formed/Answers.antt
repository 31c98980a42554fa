-- `content::formed` meets its contract, mode by mode. Assumes nothing.
use borrow.Author.Tests.{ne_eqb}
use Rattle.content.specs.Content.{formed}
use Rattle.content.proofs.formed.Goals as goal

pub returns-in-0 : goal.returns-in-0
unfolding formed
returns-in-0 c = simp (c.in-0.is, c.init_formed.ensures)

pub returns-in-1 : goal.returns-in-1
unfolding formed
returns-in-1 c = simp (c.in-1.is, c.other_formed.ensures)

pub returns-in-2 : goal.returns-in-2
unfolding formed
returns-in-2 c = simp (c.in-2.is, c.other_formed-in-2.ensures)

pub returns-in_default : goal.returns-in_default
unfolding formed
returns-in_default c = simp (ne_eqb _ _ c.in_default.in_default-own.rest.0.0.1, ne_eqb _ _ c.in_default.in_default-own.rest.0.1, ne_eqb _ _ c.in_default.in_default-own.rest.1)
