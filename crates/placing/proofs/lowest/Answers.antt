-- `placing::lowest` meets its contract: each event that can be placed is left, or is not below those left. Assumes nothing.
use mathlib.Core.Bool.{false≢true}
use native.Mathlib.Omega.{arith}
use Rattle.placing.proofs.UntriedLaws.{untried_start, untried_lowest, untried_hit, untried_taken, untried_end}
use Rattle.placing.proofs.lowest.Goals as goal

pub loop-v-init : goal.loop-v-init
loop-v-init c = rw (c.into_iter-v-iterator.ensures.into_iter_gives, c.members-v-items.ensures) (untried_start (λ d f. f.fresh) c.rest.ensures)

pub may-requires : goal.may-requires
may-requires c = let k = c.in-Some.ensures.steps in let w = untried_lowest c.loop-v.invariant k.low k.some in (w.2, w.4)

pub returns-then-may : goal.returns-then-may
returns-then-may c =
    let k = c.in-Some.ensures.steps in
    let w = untried_lowest c.loop-v.invariant k.low k.some in (
      w.1,
      record {
        bound = omega (arith, w.1);
        place = λ h. (w.3, w.2);
        free = λ h. c.may.ensures.holds c.if-may.true;
        none = λ d a b l q. false≢true (untried_hit c.loop-v.invariant k.low k.some d a b l q);
      },
    )

pub loop-v-preserved : goal.loop-v-preserved
loop-v-preserved c = untried_taken c.loop-v.invariant c.in-Some.ensures.steps (λ f. absurd (c.may.ensures.fails c.if-may.false f))

pub returns : goal.returns
returns c =
    record {
      bound = omega arith;
      place = λ h. absurd (omega (arith, h));
      free = λ h. absurd (omega (arith, h));
      none = λ d a b l q. false≢true (untried_end c.loop-v.invariant c.in-None.ensures.steps.0 d a b l q);
    }
