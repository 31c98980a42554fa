-- `closing::close` meets its contract: every pivot is done but those that are left (`Stage`). The measure is `left`, which gets smaller as a
-- number. Assumes nothing.
use mathlib.Core.Path.{◌≡◌, subst}
use Prim.Native.Nat.{ℕ}
use native.Mathlib.Omega.{arith}
use Rattle.closing.specs.Closure.{taken, Closed}
use Rattle.closing.proofs.ClosureLaws.{Stage, chosen, stage_none, stage_less, stage_next, stage_all}
use Rattle.closing.proofs.close.Goals as goal

pub pivots-left-requires : goal.pivots-left-requires
pivots-left-requires c =
    let e = c.least.ensures in
    let f = c.least-m.ensures in
    (omega arith, omega arith)

pub loop-left-init : goal.loop-left-init
loop-left-init c =
    let e = c.least.ensures in
    let f = c.least-m.ensures in
    (omega arith, omega arith, stage_none c.least-m.result c.args.rows.now c.pivots-left.result c.pivots-left.ensures)

pub sweep-requires : goal.sweep-requires
sweep-requires c =
    let l = c.loop-left in
    let t = chosen l.invariant.0 l.invariant.2 c.loop-left-test.true c.lowest-k.ensures c.without-others.ensures c.second-j.ensures in
    let s = l.invariant.2.size in
    (t.first, t.other, l.invariant.0, omega arith)

pub loop-left-smaller : goal.loop-left-smaller
loop-left-smaller c =
    let l = c.loop-left in
    let t = chosen l.invariant.0 l.invariant.2 c.loop-left-test.true c.lowest-k.ensures c.without-others.ensures c.second-j.ensures in
    stage_less l.invariant.0 t c.without-left.ensures

pub loop-left-preserved : goal.loop-left-preserved
loop-left-preserved c =
    let l = c.loop-left in
    let t = chosen l.invariant.0 l.invariant.2 c.loop-left-test.true c.lowest-k.ensures c.without-others.ensures c.second-j.ensures in
    (l.invariant.0, l.invariant.1, stage_next l.invariant.0 t c.without-left.ensures l.invariant.2 c.sweep.ensures)

pub shape_of-rows : goal.shape_of-rows
shape_of-rows c = c.loop-left.invariant.2.size

pub returns : goal.returns
returns c =
    let l = c.loop-left in
    let e = c.least.ensures in
    let f = c.least-m.ensures in
    let r = c.args.rows.now in
    let is : c.least-m.result ≡ taken c.args.n r = omega arith in
    subst (λ (x : ℕ). Closed x r l.rows) is (stage_all (subst (λ (x : ℕ). Stage c.least-m.result x r l.rows) c.loop-left-test.false l.invariant.2))
