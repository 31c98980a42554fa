-- `force::press_list` meets its contract: entry by entry. The measure is what is left. Assumes nothing.
use Rattle.std.proofs.Common.{sym, ◌∙◌, arith}
use Rattle.force.proofs.PressLaws.{presses_listed}
use Rattle.force.proofs.press_list.Goals as goal

pub loop-i-init : goal.loop-i-init
loop-i-init c = c.requires.0

pub press_entry-requires : goal.press_entry-requires
press_entry-requires c = (c.requires.2, omega arith, c.loop-i.invariant.size)

pub loop-i-preserved : goal.loop-i-preserved
loop-i-preserved c =
    let a = c.args in
    let l = c.loop-i in
    presses_listed a.m a.k a.before.now a.between.now a.readers.now a.writers.now a.n l.i c.requires.2 c.loop-i-test.true c.press_entry.ensures l.invariant

pub shape_of-f : goal.shape_of-f
shape_of-f c = c.loop-i.invariant.size ∙ sym c.requires.0.size

pub returns : goal.returns
returns c = c.loop-i.invariant
