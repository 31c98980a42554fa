-- `force::press_entry` meets its contract: bar by bar. Assumes nothing.
use Rattle.std.proofs.Common.{sym, ◌∙◌, arith}
use Rattle.force.proofs.ForcedLaws.{taken_old}
use Rattle.force.proofs.PressLaws.{presses_none, presses_more, entry_in}
use Rattle.force.proofs.press_entry.Goals as goal

pub returns-then-m-writer : goal.returns-then-m-writer
returns-then-m-writer c = presses_none c.requires.2

pub loop-v-init : goal.loop-v-init
loop-v-init c =
    (rw (c.into_iter-v-iterator.ensures.into_iter_gives, c.members-v-items.ensures) (entry_in c.requires.0 c.rest.ensures c.args.between), presses_none c.requires.2)

pub press_bar-requires : goal.press_bar-requires
press_bar-requires c =
    let l = c.loop-v in
    let e = l.invariant.0 c.in-Some.v c.in-Some.ensures.steps.member in
    (e.0, e.1, omega arith, c.requires.0, c.requires.1, l.invariant.1.size)

pub loop-v-preserved : goal.loop-v-preserved
loop-v-preserved c =
    let l = c.loop-v in
    let e = l.invariant.0 c.in-Some.v c.in-Some.ensures.steps.member in
    ((λ v q. l.invariant.0 v (taken_old c.in-Some.ensures.steps v q)), presses_more _ _ _ _ e.1 e.2 l.invariant.1 c.press_bar.ensures)

pub shape_of-f : goal.shape_of-f
shape_of-f c = c.loop-v.invariant.1.size ∙ sym c.requires.2

pub returns : goal.returns
returns c = c.loop-v.invariant.1
