-- `kept::next` meets its contract: from the start on below i there is no bar. The measure is what is left. Assumes nothing.
use mathlib.Core.Path.{sym, ◌∙◌}
use native.Mathlib.Omega.{arith}
use Rattle.kept.proofs.NumbersLaws.{passed_none, passed_more, next_here, next_end}
use Rattle.kept.proofs.next.Goals as goal

pub loop-i-init : goal.loop-i-init
loop-i-init c = passed_none c.requires

pub is_bar-requires : goal.is_bar-requires
is_bar-requires c = tt

pub returns-then-is_bar : goal.returns-then-is_bar
returns-then-is_bar c = (omega arith, next_here c.loop-i.invariant (sym c.is_bar.ensures ∙ c.if-is_bar.true))

pub skip-i-requires : goal.skip-i-requires
skip-i-requires c = omega arith

pub loop-i-smaller : goal.loop-i-smaller
loop-i-smaller c = let a = c.skip-i.ensures.on in let b = c.skip-i.ensures.high in omega arith

pub loop-i-preserved : goal.loop-i-preserved
loop-i-preserved c = passed_more c.loop-i.invariant (sym c.is_bar.ensures ∙ c.if-is_bar.false) c.skip-i.ensures

pub returns : goal.returns
returns c = next_end c.loop-i.invariant (omega arith)
