-- `force::press_all` meets its contract: bar by bar, and closed. The measure is what is left. Assumes nothing.
use Rattle.std.proofs.Common.{sym, ◌∙◌, arith}
use Rattle.force.proofs.ForcedLaws.{forced_close}
use Rattle.force.proofs.press_all.Goals as goal

pub loop-v-init : goal.loop-v-init
loop-v-init c = (omega arith, c.requires.0)

pub bounds-writers-v : goal.bounds-writers-v
bounds-writers-v c = omega (arith, c.loop-v-test.true, c.requires.2)

pub press_event-requires : goal.press_event-requires
press_event-requires c = (c.loop-v.invariant.1, c.loop-v.invariant.0, c.loop-v-test.true, c.requires.2, c.requires.3 c.loop-v.v c.loop-v-test.true)

pub loop-v-preserved : goal.loop-v-preserved
loop-v-preserved c = (omega arith, c.press_event.ensures)

pub shape_of-f : goal.shape_of-f
shape_of-f c = c.close.ensures.size ∙ c.loop-v.invariant.1.size ∙ sym c.requires.0.size

pub returns : goal.returns
returns c =
    let a = c.args in
    forced_close a.m a.k a.before.now a.bars.now c.loop-v.invariant.1 c.requires.1 c.requires.2 c.close.ensures
