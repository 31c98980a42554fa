-- `walks::walk` meets its contract: where it stands (`Stand`) and what it knows there (`Seek`). With a step on one set less is not marked,
-- and with a step back the way is shorter. Assumes nothing.
use mathlib.Core.Path.{◌≡◌, refl, sym, ◌∙◌}
use mathlib.Core.Bool.{false≢true}
use mathlib.Core.List.{List}
use Prim.Native.Nat.{ℕ, ◌<◌, ◌+◌, ◌%◌}
use native.Mathlib.Nat.{le_refl}
use native.Mathlib.Omega.{arith}
use lib.ListN.{length, length-set, take}
use Rattle.sets.specs.Mask.{slots}
use Rattle.placing.specs.Placing.{is_seen}
use Rattle.orders.specs.Tables.{tabled}
use Rattle.orders.specs.Walk.{NextReady}
use Rattle.orders.proofs.StandLaws.{Stand, stand_start, stand_lt, may_enter, stand_on, left_falls, may_leave, stand_left, entered_at, entered, full_slots}
use Rattle.orders.proofs.NextLaws.{stand_ready}
use Rattle.placing.proofs.PlacingLaws.{found_some, found_none}
use Rattle.orders.proofs.SeekLaws.{Seek, seek_start, seek_on, seek_none, seek_back, seek_end}
use Rattle.walks.proofs.walk.Goals as goal

pub loop-s-init : goal.loop-s-init
loop-s-init g c =
    let st = c.requires.0 in
    let e = c.full-s.ensures ∙ full_slots c.args.k (let a = st.inits in let b = st.events in omega arith) in
    (rw e (stand_start st), seek_start st, refl)

pub overflow_add-depth : goal.overflow_add-depth
overflow_add-depth g c = let d = c.loop-s.invariant.0.depth_le in omega (arith, d)

pub loop-s-smaller-in-Some : goal.loop-s-smaller-in-Some
loop-s-smaller-in-Some g c =
    let st = c.requires.0 in
    let s = c.loop-s.invariant.0 in
    let x = found_some c.args.m (NextReady (tabled c.args.m c.args.before.now (g.B.Bars.masks c.args.bars.now)) (is_seen (c.args.k % slots) c.loop-s.table c.loop-s.s) c.loop-s.s c.loop-s.from) c.in-Some.is (c.next.ensures (c.requires.1, st.events, stand_lt st s)) in
    let h = x.0 in
    let n = stand_ready st s x.1 in
    let f = left_falls st s h n in
    rw (entered_at (may_enter st s h n) c.enter-s.ensures).marked (omega (arith, f))

pub loop-s-preserved-in-Some : goal.loop-s-preserved-in-Some
loop-s-preserved-in-Some g c =
    let st = c.requires.0 in
    let s = c.loop-s.invariant.0 in
    let w = c.loop-s.invariant.1 in
    let x = found_some c.args.m (NextReady (tabled c.args.m c.args.before.now (g.B.Bars.masks c.args.bars.now)) (is_seen (c.args.k % slots) c.loop-s.table c.loop-s.s) c.loop-s.s c.loop-s.from) c.in-Some.is (c.next.ensures (c.requires.1, st.events, stand_lt st s)) in
    let h = x.0 in
    let n = stand_ready st s x.1 in
    let P = tabled c.args.m c.args.before.now (g.B.Bars.masks c.args.bars.now) in
    let d : ℕ = c.loop-s.depth in
    entered
    (λ (x : ℕ) (t p : List ℕ).
    Stand P c.args.k c.args.table.now t p x (d + 1) c.args.k × Seek P c.args.k (take (d + 1) p) t × (length p ≡ length c.args.path.now))
    (entered_at (may_enter st s h n) c.enter-s.ensures)
    (stand_on st s h n, seek_on st s w h n, length-set c.loop-s.path d c.in-Some.e ∙ c.loop-s.invariant.2)

pub returns-then-depth-eq0 : goal.returns-then-depth-eq0
returns-then-depth-eq0 g c =
    let st = c.requires.0 in
    let s = c.loop-s.invariant.0 in
    let e = c.full-all.ensures ∙ full_slots c.args.m st.events in
    record {
      found = λ z. absurd (false≢true z);
      none = λ z. seek_none st s c.loop-s.invariant.1 (λ q. c.loop-s-test.true (q ∙ sym e)) (le_refl c.args.m) (stand_ready st s (found_none c.args.m (NextReady (tabled c.args.m c.args.before.now (g.B.Bars.masks c.args.bars.now)) (is_seen (c.args.k % slots) c.loop-s.table c.loop-s.s) c.loop-s.s c.loop-s.from) c.in-None.is (c.next.ensures (c.requires.1, st.events, stand_lt st s)))) c.if-depth-eq0.true;
      size = s.size;
      rest = s.rest;
    }

pub bounds-path-depth : goal.bounds-path-depth
bounds-path-depth g c = may_leave c.requires.0 c.loop-s.invariant.0 (let y = c.if-depth-eq0.false in omega (arith, y))

pub loop-s-smaller : goal.loop-s-smaller
loop-s-smaller g c = let y = c.if-depth-eq0.false in omega (arith, y)

pub loop-s-preserved : goal.loop-s-preserved
loop-s-preserved g c =
    let st = c.requires.0 in
    let s = c.loop-s.invariant.0 in
    let e = c.full-all.ensures ∙ full_slots c.args.m st.events in
    let deep : 0 < c.loop-s.depth = let y = c.if-depth-eq0.false in omega (arith, y) in (
      stand_left st s deep _ c.without-s.result refl c.without-s.ensures,
      seek_back st s c.loop-s.invariant.1 (λ q. c.loop-s-test.true (q ∙ sym e)) (le_refl c.args.m) (stand_ready st s (found_none c.args.m (NextReady (tabled c.args.m c.args.before.now (g.B.Bars.masks c.args.bars.now)) (is_seen (c.args.k % slots) c.loop-s.table c.loop-s.s) c.loop-s.s c.loop-s.from) c.in-None.is (c.next.ensures (c.requires.1, st.events, stand_lt st s)))) deep,
      c.loop-s.invariant.2,
    )

pub returns : goal.returns
returns g c =
    let st = c.requires.0 in
    let e = c.full-all.ensures ∙ full_slots c.args.m st.events in
    record {
      found = λ z. seek_end st c.loop-s.invariant.0 c.loop-s.invariant.1 (c.loop-s-test.false ∙ e);
      none = λ z. absurd (false≢true (sym z));
      size = c.loop-s.invariant.0.size;
      rest = c.loop-s.invariant.0.rest;
    }
