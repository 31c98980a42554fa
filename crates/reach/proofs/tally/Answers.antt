-- `reach::tally` meets its contract: where it stands (`Stand`) and what it has counted (`Tally`). With a step on one set less is not marked,
-- and with a step back the way is shorter. Assumes nothing.
use mathlib.Core.Path.{◌≡◌, refl, ◌∙◌}
use mathlib.Core.List.{List}
use Prim.Native.Nat.{ℕ, ◌≤◌, ◌<◌, ◌+◌}
use native.Mathlib.Nat.{le_refl}
use native.Mathlib.Omega.{arith}
use lib.ListN.{length, length-set, take}
use Rattle.orders.specs.Tables.{tabled}
use Rattle.orders.proofs.StandLaws.{Stand, stand_start, may_enter, stand_on, left_falls, last_event, may_leave, stand_left, entered_at, entered, full_slots}
use Rattle.orders.proofs.NextLaws.{stand_next}
use Rattle.reach.proofs.TallyLaws.{Tally, tally_start, tally_on, tally_back, tally_over, tally_end}
use Rattle.reach.proofs.tally.Goals as goal

pub returns-then-limit-eq0 : goal.returns-then-limit-eq0
returns-then-limit-eq0 c = let y = c.if-limit-eq0.true in record { count = tally_over (tally_start c.requires.0) (omega (arith, y)); size = refl; rest = refl }

pub loop-e-init : goal.loop-e-init
loop-e-init c =
    let st = c.requires.0 in
    let e = c.full-s.ensures ∙ full_slots c.args.k (let a = st.inits in let b = st.events in omega arith) in
    (rw e (stand_start st), tally_start st, refl, (let y = c.if-limit-eq0.false in omega (arith, y)))

pub shape_of-table-then-limit-n : goal.shape_of-table-then-limit-n
shape_of-table-then-limit-n c = c.loop-e.invariant.0.size

pub shape_of-path-then-limit-n : goal.shape_of-path-then-limit-n
shape_of-path-then-limit-n c = c.loop-e.invariant.2

pub returns-then-limit-n : goal.returns-then-limit-n
returns-then-limit-n c =
    record {
      count = tally_over (tally_on c.requires.0 c.loop-e.invariant.0 c.loop-e.invariant.1 c.in-Some.ensures.0 (stand_next c.requires.1 c.requires.0 c.loop-e.invariant.0 c.in-Some.ensures.1)) (let y = c.if-limit-n.true in omega (arith, y));
      size = c.loop-e.invariant.0.size;
      rest = c.loop-e.invariant.0.rest;
    }

pub overflow_add-depth : goal.overflow_add-depth
overflow_add-depth c = let g = c.loop-e.invariant.0.depth_le in omega (arith, g)

pub overflow_add-n : goal.overflow_add-n
overflow_add-n c = let y = c.if-limit-n.false in omega (arith, y)

pub loop-e-smaller-in-Some : goal.loop-e-smaller-in-Some
loop-e-smaller-in-Some c =
    let st = c.requires.0 in
    let g = c.loop-e.invariant.0 in
    let n = stand_next c.requires.1 st g c.in-Some.ensures.1 in
    let f = left_falls st g c.in-Some.ensures.0 n in
    rw (entered_at (may_enter st g c.in-Some.ensures.0 n) c.enter-s.ensures).marked (omega (arith, f))

pub loop-e-preserved-in-Some : goal.loop-e-preserved-in-Some
loop-e-preserved-in-Some c =
    let st = c.requires.0 in
    let g = c.loop-e.invariant.0 in
    let w = c.loop-e.invariant.1 in
    let h = c.in-Some.ensures.0 in
    let n = stand_next c.requires.1 st g c.in-Some.ensures.1 in
    let P = tabled c.args.m c.args.before.now c.args.bars.now in
    let d : ℕ = c.loop-e.depth in
    let j : ℕ = c.loop-e.n in
    entered
    (λ (x : ℕ) (t p : List ℕ).
    Stand P c.args.k c.args.table.now t p x (d + 1) c.args.k × Tally P c.args.k (take (d + 1) p) t (j + 1) × (length p ≡ length c.args.path.now) × (j + 1 ≤ c.args.limit))
    (entered_at (may_enter st g h n) c.enter-s.ensures)
    (stand_on st g h n, tally_on st g w h n, length-set c.loop-e.path d c.in-Some.e ∙ c.loop-e.invariant.2, (let y = c.if-limit-n.false in omega (arith, y)))

pub shape_of-table-then-depth-eq0 : goal.shape_of-table-then-depth-eq0
shape_of-table-then-depth-eq0 c = c.loop-e.invariant.0.size

pub shape_of-path-then-depth-eq0 : goal.shape_of-path-then-depth-eq0
shape_of-path-then-depth-eq0 c = c.loop-e.invariant.2

pub returns-then-depth-eq0 : goal.returns-then-depth-eq0
returns-then-depth-eq0 c =
    record {
      count = (tally_end c.requires.0 c.loop-e.invariant.0 c.loop-e.invariant.1 (le_refl c.args.m) (stand_next c.requires.1 c.requires.0 c.loop-e.invariant.0 c.in-None.ensures) c.if-depth-eq0.true, c.loop-e.invariant.3);
      size = c.loop-e.invariant.0.size;
      rest = c.loop-e.invariant.0.rest;
    }

pub overflow_sub-depth : goal.overflow_sub-depth
overflow_sub-depth c = omega arith

pub bounds-path-depth : goal.bounds-path-depth
bounds-path-depth c = may_leave c.requires.0 c.loop-e.invariant.0 (let y = c.if-depth-eq0.false in omega (arith, y))

pub overflow_cast-x : goal.overflow_cast-x
overflow_cast-x c =
    let z = last_event c.requires.0 c.loop-e.invariant.0 (let y = c.if-depth-eq0.false in omega (arith, y)) in let b = c.requires.0.events in omega (arith, z, b)

pub overflow_add-from : goal.overflow_add-from
overflow_add-from c =
    let z = last_event c.requires.0 c.loop-e.invariant.0 (let y = c.if-depth-eq0.false in omega (arith, y)) in
    let b = c.requires.0.events in
    omega (arith, z, b)

pub loop-e-smaller : goal.loop-e-smaller
loop-e-smaller c = let y = c.if-depth-eq0.false in omega (arith, y)

pub loop-e-preserved : goal.loop-e-preserved
loop-e-preserved c =
    let st = c.requires.0 in
    let g = c.loop-e.invariant.0 in
    let deep : 0 < c.loop-e.depth = let y = c.if-depth-eq0.false in omega (arith, y) in (
      stand_left st g deep _ c.without-s.result refl c.without-s.ensures,
      tally_back st g c.loop-e.invariant.1 (le_refl c.args.m) (stand_next c.requires.1 c.requires.0 c.loop-e.invariant.0 c.in-None.ensures) deep,
      c.loop-e.invariant.2,
      c.loop-e.invariant.3,
    )
