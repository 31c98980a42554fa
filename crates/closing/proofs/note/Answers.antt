-- `closing::note` meets its contract: by the test for an empty row. Assumes nothing.
use mathlib.Core.Path.{sym, ◌∙◌}
use Prim.Native.Nat.{◌%◌}
use borrow.Author.Tests.{ne_eqb}
use Rattle.sets.specs.Mask.{slots}
use Rattle.closing.proofs.SweepLaws.{note_empty, note_some}
use Rattle.closing.proofs.note.Goals as goal

pub returns-then-x-eq0 : goal.returns-then-x-eq0
returns-then-x-eq0 c = let a = c.args in sym (note_empty a.s (a.e % slots) a.x c.if-x-eq0.true)

pub returns-else-x-eq0 : goal.returns-else-x-eq0
returns-else-x-eq0 c = let a = c.args in c.with.ensures ∙ sym (note_some a.s (a.e % slots) a.x (ne_eqb a.x 0 c.if-x-eq0.false))
