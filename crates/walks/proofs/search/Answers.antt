-- `walks::search` meets its contract: cleared, and walked down; where that ends before all are placed, by `through`. Assumes nothing.
use mathlib.Core.Path.{sym}
use Prim.Native.Nat.{◌-◌}
use native.Mathlib.Omega.{arith}
use Rattle.orders.specs.Tables.{tabled}
use Rattle.orders.proofs.AnswerLaws.{needed_slots, clean_cleared, searched_first, searched_from}
use borrow.Author.Rules.{rules}
use Rattle.walks.proofs.search.Goals as goal

pub descend-requires : goal.descend-requires
descend-requires g c = (c.requires.0.inits, c.requires.0.events, c.requires.1, c.gather.ensures.ready c.requires.0.events)

pub returns-then-descend : goal.returns-then-descend
returns-then-descend g c =
    let a = c.args in
    let n = needed_slots (a.m - a.k) c.needed-need.result (let z = c.requires.0.events in omega (arith, z)) c.needed-need.ensures in
    rw (sym c.gather.ensures.same) (searched_first (tabled a.m a.before.now (g.B.Bars.masks c.gather.new.self)) a.k a.scratch.now c.needed-need.result c.requires.0 n c.clear.ensures c.if-descend.true c.descend.ensures)

pub through-requires : goal.through-requires
through-requires g c =
    let a = c.args in
    let n = needed_slots (a.m - a.k) c.needed-need.result (let z = c.requires.0.events in omega (arith, z)) c.needed-need.ensures in
    (clean_cleared a.k a.m a.scratch.now c.needed-need.result c.requires.0 n c.clear.ensures, search rules, c.gather.ensures.ready c.requires.0.events)

pub returns : goal.returns
returns g c =
    let a = c.args in
    let n = needed_slots (a.m - a.k) c.needed-need.result (let z = c.requires.0.events in omega (arith, z)) c.needed-need.ensures in
    rw (sym c.gather.ensures.same) (searched_from (tabled a.m a.before.now (g.B.Bars.masks c.gather.new.self)) a.k a.scratch.now c.needed-need.result c.requires.0 n c.clear.ensures c.through.ensures)
