-- `content::tear_fits` meets its contract, case by case. Assumes nothing.
use Rattle.basis.specs.Test.{◌and◌, non}
use Rattle.format.specs.Shape.{unordered}
use Rattle.content.specs.Content.{tear_fits}
use Rattle.content.proofs.tear_fits.Goals as goal

pub returns-then-sc : goal.returns-then-sc
unfolding tear_fits ◌and◌ non
returns-then-sc c = simp (simp (c.sc.ensures, c.marks.ensures) at c.if-sc.true)

pub returns-then-free : goal.returns-then-free
unfolding tear_fits unordered ◌and◌ non
returns-then-free c = simp (simp (c.sc.ensures, c.marks.ensures) at c.if-sc.false, simp c.unbroken.ensures at c.if-free.true)

pub returns : goal.returns
unfolding tear_fits unordered ◌and◌ non
returns c = simp (simp (c.sc.ensures, c.marks.ensures) at c.if-sc.false, simp c.unbroken.ensures at c.if-free.false)
