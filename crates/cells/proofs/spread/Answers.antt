-- `cells::spread` meets its contract: the loop stands where what is left has not yet gained. Assumes nothing.
use Rattle.cells.specs.Cells.{spread}
use Rattle.cells.proofs.WalkLaws.{stand_start, stand_taken, stand_end}
use Rattle.cells.proofs.spread.Goals as goal

pub loop-v-init : goal.loop-v-init
loop-v-init c = rw (c.into_iter-v-iterator.ensures.into_iter_gives, c.members-v-items.ensures) (stand_start c.args.m _ _ c.ranges.m.fits)

pub loop-v-preserved : goal.loop-v-preserved
loop-v-preserved c = rw c.gain.ensures (stand_taken c.loop-v.invariant c.in-Some.v c.next.new.self.left c.in-Some.ensures.steps)

pub returns : goal.returns
unfolding spread
returns c = stand_end c.loop-v.invariant c.in-None.ensures.steps.0
