-- `lacking::lacks` meets its contract: only an access that reads can lack a row. Assumes nothing.
use mathlib.Core.Path.{sym, ◌∙◌}
use Rattle.basis.proofs.BoolLaws.{and_holds, and_fails}
use Rattle.format.specs.Shape.{reads}
use Rattle.lacking.proofs.lacks.Goals as goal

pub returns-then-not-seen : goal.returns-then-not-seen
returns-then-not-seen c = sym (and_fails (reads c.args.a) _ (sym c.reads-seen.ensures ∙ c.if-not-seen.true))

pub returns : goal.returns
returns c = c.lacks_from.ensures ∙ sym (and_holds (reads c.args.a) _ (sym c.reads-seen.ensures ∙ c.if-not-seen.false))
