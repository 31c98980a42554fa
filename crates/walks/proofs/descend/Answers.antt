-- `walks::descend` meets its contract: each event was the lowest that could be placed (`Going`). The way gets longer. Assumes nothing.
use mathlib.Core.Path.{◌≡◌, refl, ap, ◌∙◌}
use mathlib.Core.Bool.{false}
use Prim.Native.Nat.{◌%◌}
use native.Mathlib.Nat.{mod-eq_of_lt}
use native.Mathlib.Omega.{arith}
use lib.ListN.{length-set}
use Rattle.sets.specs.Mask.{slots, insert}
use Rattle.orders.specs.Tables.{tabled}
use Rattle.orders.specs.Walk.{NextReady}
use Rattle.orders.proofs.StandLaws.{full_slots}
use Rattle.placing.proofs.PlacingLaws.{found_some}
use Rattle.orders.proofs.WayLaws.{way_lt}
use Rattle.orders.proofs.DescendLaws.{going_start, going_on, going_deep, going_end}
use Rattle.walks.proofs.descend.Goals as goal

pub loop-s-init : goal.loop-s-init
loop-s-init g c =
    let a = c.args in
    let e = c.full-s.ensures ∙ full_slots a.k (omega (arith, c.requires.0, c.requires.1)) in
    (rw e (going_start (tabled a.m a.before.now (g.B.Bars.masks a.bars.now)) a.k c.requires.0 c.requires.1 a.path.now c.requires.2), refl)

pub bounds-path-depth : goal.bounds-path-depth
bounds-path-depth g c =
    let a = c.args in
    let x = found_some a.m (NextReady (tabled a.m a.before.now (g.B.Bars.masks a.bars.now)) (λ d. false) c.loop-s.s a.k) c.in-Some.is (c.lowest.ensures (c.requires.3, c.requires.1, way_lt {P = tabled a.m a.before.now (g.B.Bars.masks a.bars.now)} c.requires.0 c.requires.1 c.loop-s.invariant.0.way)) in
    let d = going_deep (tabled a.m a.before.now (g.B.Bars.masks a.bars.now)) a.k c.requires.0 c.requires.1 c.loop-s.invariant.0 x.0 x.1 in
    let z = c.loop-s.invariant.0.way.cells in
    omega (arith, d, z, c.requires.1)

pub overflow_cast-path : goal.overflow_cast-path
overflow_cast-path g c =
    let a = c.args in
    let x = found_some a.m (NextReady (tabled a.m a.before.now (g.B.Bars.masks a.bars.now)) (λ d. false) c.loop-s.s a.k) c.in-Some.is (c.lowest.ensures (c.requires.3, c.requires.1, way_lt {P = tabled a.m a.before.now (g.B.Bars.masks a.bars.now)} c.requires.0 c.requires.1 c.loop-s.invariant.0.way)) in
    omega (arith, x.0, c.requires.1)

pub overflow_add-depth : goal.overflow_add-depth
overflow_add-depth g c = let z = c.loop-s.invariant.0.way.depth_le in omega (arith, z)

pub loop-s-smaller : goal.loop-s-smaller
loop-s-smaller g c =
    let a = c.args in
    let x = found_some a.m (NextReady (tabled a.m a.before.now (g.B.Bars.masks a.bars.now)) (λ d. false) c.loop-s.s a.k) c.in-Some.is (c.lowest.ensures (c.requires.3, c.requires.1, way_lt {P = tabled a.m a.before.now (g.B.Bars.masks a.bars.now)} c.requires.0 c.requires.1 c.loop-s.invariant.0.way)) in
    let d = going_deep (tabled a.m a.before.now (g.B.Bars.masks a.bars.now)) a.k c.requires.0 c.requires.1 c.loop-s.invariant.0 x.0 x.1 in
    omega (arith, d)

pub loop-s-preserved : goal.loop-s-preserved
loop-s-preserved g c =
    let a = c.args in
    let l = c.loop-s in
    let x = found_some a.m (NextReady (tabled a.m a.before.now (g.B.Bars.masks a.bars.now)) (λ d. false) c.loop-s.s a.k) c.in-Some.is (c.lowest.ensures (c.requires.3, c.requires.1, way_lt {P = tabled a.m a.before.now (g.B.Bars.masks a.bars.now)} c.requires.0 c.requires.1 c.loop-s.invariant.0.way)) in
    let h = x.0 in
    let n = going_on (tabled a.m a.before.now (g.B.Bars.masks a.bars.now)) a.k c.requires.0 c.requires.1 l.invariant.0 h x.1 in
    let slot : c.in-Some.e % slots ≡ c.in-Some.e = mod-eq_of_lt (omega (arith, h, c.requires.1)) in
    (rw (c.with-s.ensures ∙ ap (insert l.s) slot) n, length-set l.path l.depth _ ∙ l.invariant.1)

pub returns : goal.returns
returns g c =
    let a = c.args in
    let e = c.full-all.ensures ∙ full_slots a.m c.requires.1 in
    record { found = λ z. going_end (tabled a.m a.before.now (g.B.Bars.masks a.bars.now)) a.k c.requires.0 c.requires.1 c.loop-s.invariant.0 (c.loop-s-test.false ∙ e) }
