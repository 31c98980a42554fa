-- `placing::unbarred` meets its contract: what is left has the placed writers of which nothing is known yet. Assumes nothing.
use Rattle.sets.proofs.TellsLaws.{tells_yes, tells_no}
use Rattle.placing.proofs.BarsLaws.{left_start, left_taken, left_end}
use Rattle.placing.proofs.unbarred.Goals as goal

pub loop-w-init : goal.loop-w-init
loop-w-init c = let a = c.args in rw (c.into_iter-w-iterator.ensures.into_iter_gives, c.members-w-items.ensures) (left_start a.bars.now a.writers a.s a.v c.ranges.writers.fits)

pub returns-then-not-subset : goal.returns-then-not-subset
returns-then-not-subset c =
    let w = c.in-Some.w in
    let is = c.loop-w.invariant.of w c.in-Some.ensures.steps.member in
    tells_no (λ h. c.subset.ensures.fails c.if-not-subset.true (h w is.0 is.1))

pub loop-w-preserved : goal.loop-w-preserved
loop-w-preserved c = left_taken c.loop-w.invariant c.in-Some.ensures.steps (c.subset.ensures.holds c.if-not-subset.false)

pub returns : goal.returns
returns c = tells_yes (left_end c.loop-w.invariant c.in-None.ensures.steps.0)
