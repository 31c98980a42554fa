-- `entries::shape_at` meets its contract: the front of what is left says the shape. Assumes nothing.
use mathlib.Core.Path.{ap, ◌∙◌}
use native.Mathlib.Omega.{arith}
use Rattle.format.specs.Field.{rest_at}
use Rattle.format.specs.Layout.{event_bytes, shape_of}
use Rattle.format.proofs.LayoutLaws.{shape_front}
use Rattle.entries.proofs.shape_at.Goals as goal

pub returns : goal.returns
returns c =
    let a = c.args in
    c.shape_of.ensures ∙ ap (shape_of a.edition) c.front_at.ensures
    ∙ shape_front a.edition (rest_at a.s.now a.at) (event_bytes a.edition) (omega arith)
