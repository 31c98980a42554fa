-- `force::press_on` meets its contract: what is in the masks stays forced. Assumes nothing.
use Rattle.std.proofs.Common.{sym, ◌∙◌, arith}
use mathlib.Core.Bool.{false≢true}
use Rattle.force.proofs.ForcedLaws.{forced_cycle}
use Rattle.force.proofs.press_on.Goals as goal

pub weight-had-requires : goal.weight-had-requires
weight-had-requires c = let z = c.requires.0.size in omega (arith, z, c.requires.2)

pub loop-init : goal.loop-init
loop-init c = c.requires.0

pub press_all-requires : goal.press_all-requires
press_all-requires c = (c.loop.invariant, c.requires.1, c.requires.2, c.requires.3)

pub cyclic-requires : goal.cyclic-requires
cyclic-requires c = let z = c.press_all.ensures.size in (c.requires.2, omega (arith, z))

pub shape_of-f-then-cyclic : goal.shape_of-f-then-cyclic
shape_of-f-then-cyclic c = c.press_all.ensures.size ∙ sym c.requires.0.size

pub returns-then-cyclic : goal.returns-then-cyclic
returns-then-cyclic c =
    let s = c.cyclic.ensures.some c.if-cyclic.true in
    record {
      none = λ z. forced_cycle c.args.m c.args.k c.args.before.now c.args.bars.now c.press_all.ensures s.0 s.1 s.2 s.3;
      still = c.press_all.ensures;
    }

pub weight-has-requires : goal.weight-has-requires
weight-has-requires c = let z = c.press_all.ensures.size in omega (arith, z, c.requires.2)

pub shape_of-f-then-has-had : goal.shape_of-f-then-has-had
shape_of-f-then-has-had c = c.press_all.ensures.size ∙ sym c.requires.0.size

pub returns-then-has-had : goal.returns-then-has-had
returns-then-has-had c = record { none = λ z. absurd (false≢true z); still = c.press_all.ensures }

pub loop-preserved : goal.loop-preserved
loop-preserved c = c.press_all.ensures

pub shape_of-f : goal.shape_of-f
shape_of-f c = c.loop.invariant.size ∙ sym c.requires.0.size

pub returns : goal.returns
returns c = record { none = λ z. absurd (false≢true z); still = c.loop.invariant }
