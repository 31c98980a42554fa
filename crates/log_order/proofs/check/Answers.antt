-- `log_order::check` meets its contract: the length, the numbers, then their order. Assumes nothing.
use mathlib.Core.Path.{sym, ap, ◌∙◌}
use Prim.Native.Nat.{ℕ, min}
use native.Mathlib.Omega.{arith}
use lib.ListN.{length}
use Rattle.sets.specs.Mask.{slots}
use Rattle.cells.specs.First.{first_some}
use Rattle.tables.specs.Tables.{row_room}
use Rattle.std.specs.Prelude.{Err}
use Rattle.log_order.specs.declared.Fault.TheVariants.{WrongLength}
use Rattle.log_order.specs.Listed.{bad_at}
use Rattle.cells.proofs.FirstLaws.{some_is}
use Rattle.log_order.proofs.MasksLaws.{named_of, length_said, number_said, order_said}
use Rattle.log_order.proofs.check.Goals as goal

pub returns-then-length-m : goal.returns-then-length-m
returns-then-length-m c =
    let z = c.least-m.ensures in
    ap (λ (k : ℕ). Err (WrongLength k)) c.least.ensures ∙ length_said (min c.args.events slots) c.args.t.now c.args.succ.now c.args.pred.now c.args.q.now (min c.args.n row_room) c.args.list.now (λ e. c.if-length-m.true (e ∙ sym z))

pub overflow_cast-result-in-Some : goal.overflow_cast-result-in-Some
overflow_cast-result-in-Some c =
    let z = c.least-m.ensures in
    let n = c.if-length-m.false in
    let k = (some_is _ _ c.bad.result c.in-Some.i c.bad.ensures c.in-Some.is).1 in
    omega arith

pub returns-in-Some : goal.returns-in-Some
returns-in-Some c =
    let z = c.least-m.ensures in
    number_said (min c.args.events slots) c.args.t.now c.args.succ.now c.args.pred.now c.args.q.now (min c.args.n row_room) c.args.list.now (c.if-length-m.false ∙ z) c.bad.result (c.bad.ensures ∙ ap (λ (k : ℕ). first_some (bad_at k c.args.list.now) (length c.args.list.now)) z) c.in-Some.i c.in-Some.is

pub ordered-requires : goal.ordered-requires
ordered-requires c =
    let z = c.least-m.ensures in
    named_of c.least-m.result c.args.list.now c.bad.result (omega arith) c.if-length-m.false c.bad.ensures c.in_default.is

pub returns : goal.returns
returns c =
    let z = c.least-m.ensures in
    order_said (min c.args.events slots) c.args.t.now c.args.succ.now c.args.pred.now c.args.q.now (min c.args.n row_room) c.args.list.now (c.if-length-m.false ∙ z) c.bad.result (c.bad.ensures ∙ ap (λ (k : ℕ). first_some (bad_at k c.args.list.now) (length c.args.list.now)) z) c.in_default.is (rw z at c.ordered.ensures)
