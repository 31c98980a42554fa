-- `log_order::ordered` meets its contract: happens-before first, then the rows. Assumes nothing.
use mathlib.Core.Path.{refl}
use Prim.Native.Nat.{min}
use Rattle.tables.specs.Tables.{row_room}
use native.Mathlib.Omega.{arith}
use Rattle.cells.proofs.FirstLaws.{some_is}
use Rattle.log_order.proofs.MasksLaws.{small_of, ranked_none, early_said, early_none}
use Rattle.log_order.proofs.ordered.Goals as goal

pub note-requires : goal.note-requires
note-requires c = (small_of c.requires, refl, ranked_none c.args.list.now)

pub overflow_cast-result : goal.overflow_cast-result
overflow_cast-result c =
    let k = (some_is _ _ c.early.result c.in-Some.i c.early.ensures c.in-Some.is).1 in
    let few = c.requires.few in
    let long = c.requires.long in
    omega arith

pub returns-in-Some : goal.returns-in-Some
returns-in-Some c =
    let a = c.args in
    early_said c.requires _ c.note.ensures a.t.now a.succ.now a.pred.now a.q.now (min a.n row_room) c.full.result c.full.ensures c.early.result c.early.ensures c.in-Some.i c.in-Some.is

pub returns : goal.returns
returns c =
    let a = c.args in
    early_none c.requires _ c.note.ensures a.t.now a.succ.now a.pred.now a.q.now (min a.n row_room) c.full.result c.full.ensures c.early.result c.early.ensures c.in_default.is c.barred.ensures
