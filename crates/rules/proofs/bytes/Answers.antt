-- `rules::bytes` meets its contract. Assumes nothing.
use Prim.Native.Nat.{min}
use Rattle.tables.specs.Tables.{row_room}
use Rattle.rules.proofs.StirredLaws.{rule21_kept}
use Rattle.rules.proofs.bytes.Goals as goal

pub returns : goal.returns
returns c = let a = c.args in rule21_kept a.q.now (min a.n row_room) (c.differ.ensures.fails c.if-differ.false)
