-- `force::cyclic` meets its contract. The measure is what is left. Assumes nothing.
use Rattle.std.proofs.Common.{get_or, sym, ap, ◌∙◌, mod-eq_of_lt, arith}
use mathlib.Core.Bool.{false≢true}
use Rattle.sets.specs.Mask.{mem}
use Rattle.force.proofs.cyclic.Goals as goal

pub loop-v-init : goal.loop-v-init
loop-v-init c = omega arith

pub returns-then-has : goal.returns-then-has
returns-then-has c =
    let v = c.loop-v.v in
    record { some = λ z. (v, c.loop-v.invariant, c.loop-v-test.true, ap (mem (get_or c.args.f.now v 0)) (sym (mod-eq_of_lt (omega arith))) ∙ sym c.has.ensures ∙ c.if-has.true) }

pub loop-v-preserved : goal.loop-v-preserved
loop-v-preserved c = omega arith

pub returns : goal.returns
returns c = record { some = λ z. absurd (false≢true z) }
