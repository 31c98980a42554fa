-- `torn::named` meets its contract, by the tests. Assumes nothing.
use Rattle.std.proofs.Common.{◌≡◌, ℕ, min, false, arith, below_more}
use Rattle.sets.specs.Mask.{slots}
use Rattle.torn.specs.Torn.{torn_in}
use Rattle.torn.proofs.TornLaws.{torn_is, torn_no, named_here, none_here}
use Rattle.torn.proofs.DoubledLaws.{not_doubled}
use Rattle.torn.proofs.named.Goals as goal

pub returns-then-not-doubled : goal.returns-then-not-doubled
returns-then-not-doubled c = not_doubled c.args.s.now (min c.args.n slots) (omega arith) (c.doubled.ensures.fails c.if-not-doubled.true)

pub loop-e-init : goal.loop-e-init
loop-e-init c = λ d h. absurd (omega arith)

pub overflow_cast-names-in-Some : goal.overflow_cast-names-in-Some
overflow_cast-names-in-Some c =
    let z = c.least-e-end.ensures in
    let k = (torn_is c.args.s.now c.loop-e.e (omega arith) c.pair.result c.pair.ensures c.in-Some.p c.in-Some.is).1 in
    omega arith

pub returns-in-Some : goal.returns-in-Some
returns-in-Some c =
    let z = c.least-e-end.ensures in
    named_here c.args.s.now (min c.args.n slots) c.loop-e.e c.in-Some.p (omega arith) c.loop-e.invariant (torn_is c.args.s.now c.loop-e.e (omega arith) c.pair.result c.pair.ensures c.in-Some.p c.in-Some.is)

pub loop-e-preserved : goal.loop-e-preserved
loop-e-preserved c =
    let z = c.least-e-end.ensures in
    below_more (λ (d : ℕ). torn_in c.args.s.now d ≡ false) c.loop-e.e c.loop-e.invariant (torn_no c.args.s.now c.loop-e.e (omega arith) c.pair.result c.pair.ensures c.in_default.is)

pub returns : goal.returns
returns c =
    let z = c.least-e-end.ensures in
    none_here c.args.s.now (min c.args.n slots) (λ d h. c.loop-e.invariant d (omega arith))
