-- `sets::with` meets its contract: the shifted bit is the event's, and `or` puts it in. Assumes nothing.
use mathlib.Core.Path.{ap, ◌∙◌}
use Prim.Native.Nat.{ℕ, ◌%◌}
use native.Mathlib.Omega.{arith}
use lib.Bits.{bit_or}
use Rattle.sets.specs.Mask.{slots}
use Rattle.sets.proofs.MaskLaws.{one_shl, or_one}
use Rattle.sets.proofs.with.Goals as goal

pub returns : goal.returns
returns c = ap (λ (x : ℕ). bit_or c.args.s x) (one_shl slots (c.args.e % slots) (omega arith)) ∙ or_one c.args.s (c.args.e % slots)
