-- `placing::next` meets its contract: each event that can be placed leads to a marked set, or is left. Assumes nothing.
use mathlib.Core.Path.{sym, ap, ◌∙◌}
use Prim.Native.Nat.{◌%◌}
use native.Mathlib.Omega.{arith}
use Rattle.sets.specs.Mask.{slots}
use Rattle.marks.specs.Table.{is_marked}
use Rattle.placing.proofs.PlacingLaws.{looked}
use Rattle.placing.proofs.UntriedLaws.{untried_start, untried_lowest, untried_hit, untried_taken, untried_end}
use Rattle.placing.proofs.next.Goals as goal

pub loop-e-init : goal.loop-e-init
loop-e-init c = rw (c.into_iter-e-iterator.ensures.into_iter_gives, c.members-e-items.ensures) (untried_start (λ d f. f.fresh) c.rest.ensures)

pub may-requires : goal.may-requires
may-requires c = let k = c.in-Some.ensures.steps in let w = untried_lowest c.loop-e.invariant k.low k.some in (w.2, w.4)

pub returns-then-not-marked : goal.returns-then-not-marked
returns-then-not-marked c =
    let k = c.in-Some.ensures.steps in
    let w = untried_lowest c.loop-e.invariant k.low k.some in
    let x = looked c.args.s c.in-Some.e (c.args.k % slots) w.2 c.with.ensures c.above-x.ensures in (
      w.1,
      record {
        bound = omega (arith, w.1);
        place = λ h. (w.3, w.2);
        free = λ h. c.may.ensures.holds c.if-may.true;
        unseen = λ h. ap (is_marked c.args.table.now) (sym x) ∙ sym c.marked.ensures ∙ c.if-not-marked.true;
        tried = untried_hit c.loop-e.invariant k.low k.some;
      },
    )

pub loop-e-preserved-else-not-marked : goal.loop-e-preserved-else-not-marked
loop-e-preserved-else-not-marked c =
    let a = c.args in
    let k = c.in-Some.ensures.steps in
    let x = looked a.s c.in-Some.e (a.k % slots) k.slot c.with.ensures c.above-x.ensures in
    untried_taken c.loop-e.invariant k (λ f. ap (is_marked a.table.now) (sym x) ∙ sym c.marked.ensures ∙ c.if-not-marked.false)

pub loop-e-preserved : goal.loop-e-preserved
loop-e-preserved c = untried_taken c.loop-e.invariant c.in-Some.ensures.steps (λ f. absurd (c.may.ensures.fails c.if-may.false f))

pub returns : goal.returns
returns c =
    record {
      bound = omega arith;
      place = λ h. absurd (omega (arith, h));
      free = λ h. absurd (omega (arith, h));
      unseen = λ h. absurd (omega (arith, h));
      tried = untried_end c.loop-e.invariant c.in-None.ensures.steps.0;
    }
