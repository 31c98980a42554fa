-- `sets::lowest` meets its contract: the machine's count of zeros below the lowest bit. Assumes nothing.
use mathlib.Core.Path.{ap, ◌∙◌}
use Prim.Native.Nat.{ℕ}
use native.Mathlib.Omega.{arith}
use lib.Count.{count_trailing_zeros}
use Rattle.sets.specs.Mask.{slots}
use Rattle.sets.proofs.MaskLaws.{lowest_in, lowest_least, lowest_none, lowest_le}
use Rattle.sets.proofs.lowest.Goals as goal

pub overflow_cast-result : goal.overflow_cast-result
overflow_cast-result c = omega (arith, lowest_le slots c.args.s)

pub returns : goal.returns
returns c = let s = c.args.s in
    record {
      member = λ p. lowest_in slots s p c.ranges.s.fits;
      least = λ d l. lowest_least slots s d l;
      none = λ p. ap (λ (x : ℕ). count_trailing_zeros slots x) p ∙ lowest_none slots;
    }
