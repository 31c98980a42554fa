-- `log_order::behind` meets its contract: of what is left nothing is known yet. Assumes nothing.
use Rattle.std.proofs.Common.{sym, ◌∙◌}
use Rattle.cells.proofs.FirstLaws.{left_start, left_hit, left_next, left_end}
use Rattle.log_order.proofs.behind.Goals as goal

pub loop-v-init : goal.loop-v-init
loop-v-init c = rw (c.into_iter-v-iterator.ensures.into_iter_gives, c.members-v-items.ensures) (left_start _ c.args.m c.ranges.m.fits)

pub returns-then-has : goal.returns-then-has
returns-then-has c = left_hit c.loop-v.invariant c.in-Some.v c.next.new.self.left c.in-Some.ensures.steps (sym c.has.ensures ∙ c.if-has.true)

pub loop-v-preserved : goal.loop-v-preserved
loop-v-preserved c = left_next c.loop-v.invariant c.in-Some.v c.next.new.self.left c.in-Some.ensures.steps (sym c.has.ensures ∙ c.if-has.false)

pub returns : goal.returns
returns c = left_end c.loop-v.invariant c.in-None.ensures.steps.0
