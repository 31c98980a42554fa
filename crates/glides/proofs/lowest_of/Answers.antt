-- `glides::lowest_of` meets its contract: each event below those that are left has been tried. Assumes nothing.
use mathlib.Core.Path.{refl}
use Rattle.glides.proofs.GlideLaws.{unseen_start, unseen_hit, unseen_taken, unseen_end}
use Rattle.glides.proofs.lowest_of.Goals as goal

pub loop-v-init : goal.loop-v-init
loop-v-init c =
    let a = c.args in
    rw (c.into_iter-v-iterator.ensures.into_iter_gives, c.members-v-items.ensures) (unseen_start a.m a.before.now a.s a.left c.ranges.left.fits c.requires)

pub returns-then-subset : goal.returns-then-subset
returns-then-subset c =
    let a = c.args in
    unseen_hit a.m a.before.now a.s a.left c.ranges.left.fits c.loop-v.invariant c.in-Some.ensures.steps (c.subset.ensures.holds c.if-subset.true) refl

pub loop-v-preserved : goal.loop-v-preserved
loop-v-preserved c =
    let a = c.args in
    unseen_taken a.m a.before.now a.s a.left c.ranges.left.fits c.loop-v.invariant c.in-Some.ensures.steps (λ h. absurd (c.subset.ensures.fails c.if-subset.false h))

pub returns : goal.returns
returns c = let a = c.args in unseen_end a.m a.before.now a.s a.left c.ranges.left.fits c.loop-v.invariant c.in-None.ensures.steps.0
