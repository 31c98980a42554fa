-- `force::press_event` meets its contract: what is left is a part of the writers. Assumes nothing.
use Rattle.std.proofs.Common.{sym, ◌∙◌}
use Rattle.force.proofs.ForcedLaws.{taken_old}
use Rattle.force.proofs.press_event.Goals as goal

pub loop-w-init : goal.loop-w-init
loop-w-init c = (rw (c.into_iter-w-iterator.ensures.into_iter_gives, c.members-w-items.ensures) (λ e q. q), c.requires.0)

pub press-requires : goal.press-requires
press-requires c = let w = c.in-Some.w in (c.loop-w.invariant.1, c.requires.1, c.requires.2, c.requires.4 w (c.loop-w.invariant.0 w c.in-Some.ensures.steps.member), c.requires.3)

pub loop-w-preserved : goal.loop-w-preserved
loop-w-preserved c = ((λ e q. c.loop-w.invariant.0 e (taken_old c.in-Some.ensures.steps e q)), c.press.ensures)

pub shape_of-f : goal.shape_of-f
shape_of-f c = c.loop-w.invariant.1.size ∙ sym c.requires.0.size

pub returns : goal.returns
returns c = c.loop-w.invariant.1
