-- `bars::fill` meets its contract: the sets of equal ranges, and the bars by them. Assumes nothing.
use mathlib.Core.Path.{ap, ◌∙◌}
use mathlib.Core.List.{List}
use Prim.Native.Nat.{ℕ, min}
use Rattle.tables.specs.Tables.{row_room}
use Rattle.alike.specs.Ranges.{equals_in}
use Rattle.bars.specs.Bars.{bars_in, filled_in}
use Rattle.bars.proofs.fill.Goals as goal

pub returns : goal.returns
unfolding filled_in equals_in
returns c = c.add.ensures ∙ ap (λ (eq : List ℕ). bars_in c.args.t.now eq c.args.succ.now c.args.pred.now c.args.q.now (min c.args.rows row_room) c.args.bars.now) c.equals.ensures
