-- `glides::next_of` meets its contract: each event below those that are left waits for something, or leads to a marked set. Assumes nothing.
use mathlib.Core.Path.{sym, ap, ◌∙◌}
use Prim.Native.Nat.{◌%◌}
use Rattle.sets.specs.Mask.{slots}
use Rattle.marks.specs.Table.{is_marked}
use Rattle.placing.proofs.PlacingLaws.{looked}
use Rattle.glides.proofs.GlideLaws.{unseen_start, unseen_taken, unseen_hit, unseen_end}
use Rattle.glides.proofs.next_of.Goals as goal

pub loop-e-init : goal.loop-e-init
loop-e-init c =
    let a = c.args in
    rw (c.into_iter-e-iterator.ensures.into_iter_gives, c.members-e-items.ensures) (unseen_start a.m a.before.now a.s a.left c.ranges.left.fits c.requires)

pub returns-then-not-marked : goal.returns-then-not-marked
returns-then-not-marked c =
    let a = c.args in
    let k = c.in-Some.ensures.steps in
    let x = looked a.s c.in-Some.e (a.k % slots) k.slot c.with.ensures c.above-x.ensures in
    unseen_hit a.m a.before.now a.s a.left c.ranges.left.fits c.loop-e.invariant k (c.subset.ensures.holds c.if-subset.true)
    (ap (is_marked a.table.now) (sym x) ∙ sym c.marked.ensures ∙ c.if-not-marked.true)

pub loop-e-preserved-else-not-marked : goal.loop-e-preserved-else-not-marked
loop-e-preserved-else-not-marked c =
    let a = c.args in
    let k = c.in-Some.ensures.steps in
    let x = looked a.s c.in-Some.e (a.k % slots) k.slot c.with.ensures c.above-x.ensures in
    unseen_taken a.m a.before.now a.s a.left c.ranges.left.fits c.loop-e.invariant k (λ h. ap (is_marked a.table.now) (sym x) ∙ sym c.marked.ensures ∙ c.if-not-marked.false)

pub loop-e-preserved : goal.loop-e-preserved
loop-e-preserved c =
    let a = c.args in
    unseen_taken a.m a.before.now a.s a.left c.ranges.left.fits c.loop-e.invariant c.in-Some.ensures.steps (λ h. absurd (c.subset.ensures.fails c.if-subset.false h))

pub returns : goal.returns
returns c = let a = c.args in unseen_end a.m a.before.now a.s a.left c.ranges.left.fits c.loop-e.invariant c.in-None.ensures.steps.0
