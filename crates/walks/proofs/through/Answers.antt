-- `walks::through` meets its contract: pressed, walked through, and cleared. Assumes nothing.
use Prim.Native.Nat.{◌-◌}
use native.Mathlib.Omega.{arith}
use Rattle.orders.specs.Tables.{tabled}
use Rattle.orders.proofs.AnswerLaws.{needed_slots, clean_starts, clean_none, clean_walked}
use Rattle.force.proofs.ForcedLaws.{forced_searched}
use Rattle.walks.proofs.through.Goals as goal

pub returns-then-force : goal.returns-then-force
returns-then-force g c =
    let a = c.args in
    clean_none (tabled a.m a.before.now (g.B.Bars.masks a.bars.now)) a.k a.scratch.now c.requires.0 ((c.force.ensures (c.requires.2, c.requires.0.inits, c.requires.0.events)).none c.if-force.true)

pub walk-found-requires : goal.walk-found-requires
walk-found-requires g c =
    let a = c.args in
    (clean_starts (tabled a.m c.force.new.f (g.B.Bars.masks a.bars.now)) a.k a.scratch.now c.requires.0 a.path.now c.requires.1, c.requires.2)

pub returns : goal.returns
returns g c =
    let a = c.args in
    let n = needed_slots (a.m - a.k) c.needed-need.result (let z = c.requires.0.events in omega (arith, z)) c.needed-need.ensures in
    forced_searched a.m a.k a.before.now (g.B.Bars.masks a.bars.now) (c.force.ensures (c.requires.2, c.requires.0.inits, c.requires.0.events)).still
    (clean_walked (tabled a.m c.force.new.f (g.B.Bars.masks a.bars.now)) a.k a.scratch.now c.requires.0 c.needed-need.result n c.walk-found.ensures c.clear.ensures)
