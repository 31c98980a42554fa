-- `compose::end_of` meets its contract: by its one test. Assumes nothing.
use borrow.Author.Tests.{le-leb, lt-leb}
use Rattle.compose.proofs.end_of.Goals as goal

pub returns-then-want-size : goal.returns-then-want-size
returns-then-want-size c = simp (le-leb _ _ c.if-want-size.true)

pub returns-else-want-size : goal.returns-else-want-size
returns-else-want-size c = simp (lt-leb _ _ c.if-want-size.false)
