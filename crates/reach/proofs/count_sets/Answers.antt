-- `reach::count_sets` meets its contract: cleared, counted, and cleared again. Assumes nothing.
use mathlib.Core.Path.{refl}
use Prim.Native.Nat.{◌-◌}
use native.Mathlib.Omega.{arith}
use Rattle.orders.specs.Tables.{tabled}
use Rattle.orders.proofs.TablesLaws.{gathered}
use Rattle.orders.proofs.AnswerLaws.{needed_slots, starts}
use Rattle.reach.proofs.TalliedLaws.{tallied}
use Rattle.reach.proofs.count_sets.Goals as goal

pub returns-then-not-fits : goal.returns-then-not-fits
returns-then-not-fits c = let n = c.fits.ensures.fails c.if-not-fits.true in record { fit = λ f. absurd (n f); unfit = λ g. (refl, refl) }

pub overflow_sub-events : goal.overflow_sub-events
overflow_sub-events c = let f = c.fits.ensures.holds c.if-not-fits.false in let e = f.inits in omega (arith, e)

pub tally-r-requires : goal.tally-r-requires
tally-r-requires c =
    let a = c.args in
    let f = c.fits.ensures.holds c.if-not-fits.false in
    let n = needed_slots (a.events - a.inits) c.needed-need.result (let z = f.events in omega (arith, z)) c.needed-need.ensures in
    (starts (tabled a.events a.before.now a.bars.now) a.inits a.scratch.now _ c.clear.new.table c.needed-need.result f (omega arith) n c.clear.ensures, gathered a.events a.bars.now _ _ f.events (omega arith) c.gather.ensures)

pub returns : goal.returns
returns c =
    let a = c.args in
    let f = c.fits.ensures.holds c.if-not-fits.false in
    let n = needed_slots (a.events - a.inits) c.needed-need.result (let z = f.events in omega (arith, z)) c.needed-need.ensures in
    tallied a.inits a.events a.before.now a.bars.now a.scratch.now a.limit c.needed-need.result f n c.clear.ensures c.tally-r.ensures c.clear-2.ensures
