-- `force::press_list_on` meets its contract: what is in the masks stays forced. Assumes nothing.
use Rattle.std.proofs.Common.{sym, ◌∙◌, arith}
use mathlib.Core.Bool.{false≢true}
use Rattle.orders.specs.Listed.{listed_bars}
use Rattle.force.proofs.ForcedLaws.{forced_close, forced_cycle}
use Rattle.force.proofs.press_list_on.Goals as goal

pub weight-had-requires : goal.weight-had-requires
weight-had-requires c = let z = c.requires.0.size in omega (arith, z, c.requires.2)

pub loop-init : goal.loop-init
loop-init c = c.requires.0

pub press_list-requires : goal.press_list-requires
press_list-requires c = (c.loop.invariant, c.requires.1, c.requires.2, c.requires.3)

pub cyclic-requires : goal.cyclic-requires
cyclic-requires c = let z = c.press_list.ensures.size in (c.requires.2, omega (arith, z))

pub shape_of-f-then-cyclic : goal.shape_of-f-then-cyclic
shape_of-f-then-cyclic c = c.press_list.ensures.size ∙ sym c.requires.0.size

pub returns-then-cyclic : goal.returns-then-cyclic
returns-then-cyclic c =
    let a = c.args in
    let s = c.cyclic.ensures.some c.if-cyclic.true in
    record { none = λ z. forced_cycle a.m a.k a.before.now (listed_bars a.between.now a.readers.now a.writers.now a.n) c.press_list.ensures s.0 s.1 s.2 s.3; still = c.press_list.ensures }

pub cyclic-requires-in-loop : goal.cyclic-requires-in-loop
cyclic-requires-in-loop c = let z = c.press_list.ensures.size in let y = c.close.ensures.size in (c.requires.2, omega (arith, z, y))

pub shape_of-f-then-cyclic-2 : goal.shape_of-f-then-cyclic-2
shape_of-f-then-cyclic-2 c = c.close.ensures.size ∙ c.press_list.ensures.size ∙ sym c.requires.0.size

pub returns-then-cyclic-2 : goal.returns-then-cyclic-2
returns-then-cyclic-2 c =
    let a = c.args in
    let s = c.cyclic-in-loop.ensures.some c.if-cyclic-2.true in
    let i = forced_close a.m a.k a.before.now (listed_bars a.between.now a.readers.now a.writers.now a.n) c.press_list.ensures c.requires.1 c.requires.2 c.close.ensures in
    record { none = λ z. forced_cycle a.m a.k a.before.now (listed_bars a.between.now a.readers.now a.writers.now a.n) i s.0 s.1 s.2 s.3; still = i }

pub weight-has-requires : goal.weight-has-requires
weight-has-requires c = let z = c.press_list.ensures.size in let y = c.close.ensures.size in omega (arith, z, y, c.requires.2)

pub shape_of-f-then-has-had : goal.shape_of-f-then-has-had
shape_of-f-then-has-had c = c.close.ensures.size ∙ c.press_list.ensures.size ∙ sym c.requires.0.size

pub returns-then-has-had : goal.returns-then-has-had
returns-then-has-had c =
    let a = c.args in
    record { none = λ z. absurd (false≢true z); still = forced_close a.m a.k a.before.now (listed_bars a.between.now a.readers.now a.writers.now a.n) c.press_list.ensures c.requires.1 c.requires.2 c.close.ensures }

pub loop-preserved : goal.loop-preserved
loop-preserved c =
    let a = c.args in
    forced_close a.m a.k a.before.now (listed_bars a.between.now a.readers.now a.writers.now a.n) c.press_list.ensures c.requires.1 c.requires.2 c.close.ensures

pub shape_of-f : goal.shape_of-f
shape_of-f c = c.loop.invariant.size ∙ sym c.requires.0.size

pub returns : goal.returns
returns c = record { none = λ z. absurd (false≢true z); still = c.loop.invariant }
