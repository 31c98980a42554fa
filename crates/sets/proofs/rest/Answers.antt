-- `sets::rest` meets its contract: the mask has those members. Assumes nothing.
use Prim.Native.Nat.{min}
use native.Mathlib.Omega.{arith}
use Rattle.sets.specs.Mask.{slots}
use Rattle.sets.proofs.RestLaws.{rest_is}
use Rattle.sets.proofs.rest.Goals as goal

pub returns : goal.returns
returns c = let a = c.args in
    rw (c.full.ensures, c.full-2.ensures) (rest_is a.s a.from (min a.n slots) (omega arith) c.ranges.s.fits)
