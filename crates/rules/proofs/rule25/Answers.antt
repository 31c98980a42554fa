-- `rules::rule25` meets its contract: by the sources of all rows. Assumes nothing.
use mathlib.Core.Path.{◌∙◌}
use Prim.Native.Nat.{min}
use Rattle.sets.specs.Mask.{slots}
use Rattle.tables.specs.Tables.{row_room}
use Rattle.rules.proofs.StirredLaws.{by_sources}
use Rattle.rules.proofs.rule25.Goals as goal

pub returns : goal.returns
returns c =
    let a = c.args in
    c.named.ensures ∙ by_sources a.t.now (min a.events slots) a.q.now (min a.rows row_room) _ c.sources.ensures
