-- `layout::tear_of` meets its contract by its test. Assumes nothing.
use Rattle.basis.specs.Test.{◌and◌, ◌or◌, non}
use Rattle.format.specs.Shape.{tear_of}
use Rattle.layout.proofs.tear_of.Goals as goal

pub returns-then-free : goal.returns-then-free
unfolding tear_of ◌and◌ ◌or◌ non
returns-then-free c = simp (simp c.unbroken.ensures at c.if-free.true)

pub returns-else-free : goal.returns-else-free
unfolding tear_of ◌and◌ ◌or◌ non
returns-else-free c = simp (simp c.unbroken.ensures at c.if-free.false)
