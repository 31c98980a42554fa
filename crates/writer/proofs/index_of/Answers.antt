-- `writer::index_of` meets its contract: by the number. Assumes nothing.
use mathlib.Core.Path.{◌∙◌}
use Rattle.basis.specs.Test.{◌or◌}
use Rattle.encode.specs.Index.{no_entry}
use Rattle.encode.proofs.IndexLaws.{index_none, index_some}
use Rattle.writer.proofs.index_of.Goals as goal

pub returns-then-none : goal.returns-then-none
unfolding no_entry ◌or◌
returns-then-none c = index_none c.args.s.now c.args.n c.args.p c.if-none.true

pub returns : goal.returns
unfolding no_entry ◌or◌
returns c = c.same_before.ensures ∙ index_some c.args.s.now c.args.n c.args.p c.if-none.false
