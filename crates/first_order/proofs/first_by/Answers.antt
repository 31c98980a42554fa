-- `first_order::first_by` meets its contract: by the walk, where there is a place for each event. Assumes nothing.
use mathlib.Core.Path.{sym}
use native.Mathlib.Omega.{arith}
use Rattle.orders.proofs.AnswerLaws.{answered_unfit, answered_some, answered_none, sought_fits}
use Rattle.first_order.proofs.first_by.Goals as goal

pub returns-then-order-events : goal.returns-then-order-events
returns-then-order-events g c = answered_unfit (λ f. omega (arith, f.1, c.if-order-events.true))

pub slice_bounds-write-end : goal.slice_bounds-write-end
slice_bounds-write-end g c = sym c.seek_by.ensures.size

pub write-requires : goal.write-requires
write-requires g c =
    let f = sought_fits c.seek_by.ensures c.if-seek_by.true in
    let e = f.events in
    let z = c.seek_by.ensures.size in
    (f.inits, e, omega (arith, e, z), omega (arith, c.if-order-events.false))

pub returns-then-seek_by : goal.returns-then-seek_by
returns-then-seek_by g c = answered_some c.seek_by.ensures c.if-seek_by.true c.args.order.now (omega (arith, c.if-order-events.false)) c.write.ensures

pub returns : goal.returns
returns g c = answered_none c.seek_by.ensures c.if-seek_by.false (omega (arith, c.if-order-events.false))
