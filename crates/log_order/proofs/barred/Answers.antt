-- `log_order::barred` meets its contract: no row before j has an event that it bars. Assumes nothing.
use Rattle.std.proofs.Common.{◌≡◌, ℕ, min, false, arith, below_more}
use Rattle.sets.specs.Mask.{slots}
use Rattle.tables.specs.Tables.{row_room}
use Rattle.alike.specs.Ranges.{equals_in}
use Rattle.log_order.specs.steps.Masks.{crosses_in}
use Rattle.log_order.proofs.MasksLaws.{crosses_is, crosses_no, bar_yes, bar_no}
use Rattle.log_order.proofs.barred.Goals as goal

pub loop-j-init : goal.loop-j-init
loop-j-init c = λ d h. absurd (omega arith)

pub overflow_cast-result : goal.overflow_cast-result
overflow_cast-result c =
    let a = c.args in
    let z = c.least-j-end.ensures in
    let k = (crosses_is a.q.now c.loop-j.j (omega arith) c.row-r.result c.row-r.ensures a.t.now c.equals.new.eq a.succ.now a.pred.now a.earlier.now c.cross.result c.cross.ensures c.in-Some.v c.in-Some.is).1 in
    omega arith

pub returns-in-Some : goal.returns-in-Some
unfolding equals_in
returns-in-Some c =
    let a = c.args in
    let z = c.least-j-end.ensures in
    bar_yes (min a.m slots) a.t.now a.succ.now a.pred.now a.earlier.now a.q.now (min a.n row_room) _ c.equals.ensures (omega arith) c.loop-j.j (omega arith) c.loop-j.invariant c.row-r.result c.row-r.ensures c.in-Some.v
    (crosses_is a.q.now c.loop-j.j (omega arith) c.row-r.result c.row-r.ensures a.t.now _ a.succ.now a.pred.now a.earlier.now c.cross.result c.cross.ensures c.in-Some.v c.in-Some.is)

pub loop-j-preserved : goal.loop-j-preserved
loop-j-preserved c =
    let a = c.args in
    let z = c.least-j-end.ensures in
    below_more (λ (d : ℕ). crosses_in a.t.now c.equals.new.eq a.succ.now a.pred.now a.earlier.now a.q.now d ≡ false) c.loop-j.j c.loop-j.invariant
    (crosses_no a.q.now c.loop-j.j (omega arith) c.row-r.result c.row-r.ensures a.t.now _ a.succ.now a.pred.now a.earlier.now c.cross.result c.cross.ensures c.in_default.is)

pub returns : goal.returns
unfolding equals_in
returns c =
    let a = c.args in
    let z = c.least-j-end.ensures in
    bar_no (min a.m slots) a.t.now a.succ.now a.pred.now a.earlier.now a.q.now (min a.n row_room) _ c.equals.ensures (λ d h. c.loop-j.invariant d (omega arith))
