-- `force::waited` meets its contract: what is left is a part of the set. Assumes nothing.
use Rattle.std.proofs.Common.{get_or, sym, ap, ◌∙◌, mod-eq_of_lt}
use mathlib.Core.Bool.{false≢true}
use Rattle.sets.specs.Mask.{mem}
use Rattle.force.proofs.ForcedLaws.{taken_old}
use Rattle.force.proofs.waited.Goals as goal

pub loop-r-init : goal.loop-r-init
loop-r-init c = rw (c.into_iter-r-iterator.ensures.into_iter_gives, c.members-r-items.ensures) (λ e q. q)

pub returns-then-has : goal.returns-then-has
returns-then-has c =
    let r = c.in-Some.r in
    record {
      some = λ z. (r, c.loop-r.invariant r c.in-Some.ensures.steps.member, ap (mem (get_or c.args.f.now r 0)) (sym (mod-eq_of_lt c.requires.0)) ∙ sym c.has.ensures ∙ c.if-has.true);
    }

pub loop-r-preserved : goal.loop-r-preserved
loop-r-preserved c = λ e q. c.loop-r.invariant e (taken_old c.in-Some.ensures.steps e q)

pub returns : goal.returns
returns c = record { some = λ z. absurd (false≢true z) }
