-- `rules::rule24` meets its contract: no row before j has an event between. Assumes nothing.
use Rattle.std.proofs.Common.{◌≡◌, ℕ, min, false, arith, below_more}
use Rattle.tables.specs.Tables.{row_room}
use Rattle.rules.specs.Rules.{over_in}
use Rattle.rules.proofs.RulesLaws.{over_is, over_no, rule24_yes, rule24_no}
use Rattle.rules.proofs.rule24.Goals as goal

pub loop-j-init : goal.loop-j-init
loop-j-init c = λ d h. absurd (omega arith)

pub overflow_cast-names : goal.overflow_cast-names
overflow_cast-names c =
    let z = c.least-j-end.ensures in
    let k = (over_is c.args.q.now c.loop-j.j (omega arith) c.row-r.result c.row-r.ensures c.args.t.now c.args.succ.now c.args.pred.now c.between.result c.between.ensures c.in-Some.v c.in-Some.is).1 in
    omega arith

pub returns-in-Some : goal.returns-in-Some
returns-in-Some c =
    let z = c.least-j-end.ensures in
    rule24_yes c.args.q.now (min c.args.n row_room) c.loop-j.j (omega arith) c.row-r.result c.row-r.ensures c.args.t.now c.args.succ.now c.args.pred.now c.in-Some.v (omega arith) c.loop-j.invariant
    (over_is c.args.q.now c.loop-j.j (omega arith) c.row-r.result c.row-r.ensures c.args.t.now c.args.succ.now c.args.pred.now c.between.result c.between.ensures c.in-Some.v c.in-Some.is)

pub loop-j-preserved : goal.loop-j-preserved
loop-j-preserved c =
    let z = c.least-j-end.ensures in
    below_more (λ (d : ℕ). over_in c.args.t.now c.args.q.now c.args.succ.now c.args.pred.now d ≡ false) c.loop-j.j c.loop-j.invariant
    (over_no c.args.q.now c.loop-j.j (omega arith) c.row-r.result c.row-r.ensures c.args.t.now c.args.succ.now c.args.pred.now c.between.result c.between.ensures c.in_default.is)

pub returns : goal.returns
returns c =
    let z = c.least-j-end.ensures in
    rule24_no c.args.t.now c.args.q.now c.args.succ.now c.args.pred.now (min c.args.n row_room) (λ d h. c.loop-j.invariant d (omega arith))
