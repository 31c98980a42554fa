-- `sets::without` meets its contract: `and` with all bits but the event's. Assumes nothing.
use mathlib.Core.Path.{ap, ◌∙◌}
use Prim.Native.Nat.{ℕ, ◌%◌, ◌-◌, ◌^◌}
use native.Mathlib.Omega.{arith}
use lib.Bits.{bit_and}
use Rattle.sets.specs.Mask.{slots}
use Rattle.sets.proofs.MaskLaws.{one_shl, and_not_one}
use Rattle.sets.proofs.without.Goals as goal

pub returns : goal.returns
returns c = ap (λ (x : ℕ). bit_and c.args.s ((2 ^ slots - 1) - x)) (one_shl slots (c.args.e % slots) (omega arith))
    ∙ and_not_one slots c.args.s (c.args.e % slots) c.ranges.s.fits (omega arith)
