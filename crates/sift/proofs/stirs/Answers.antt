-- `sift::stirs` meets its contract, part by part. Assumes nothing.
use mathlib.Core.Path.{◌≡◌}
use Prim.Native.Nat.{◌%◌}
use native.Mathlib.Nat.{mod-eq_of_lt}
use native.Mathlib.Omega.{arith}
use Rattle.sets.specs.Mask.{slots}
use Rattle.sift.specs.Clean.{stirs_in}
use Rattle.sift.proofs.stirs.Goals as goal

pub returns : goal.returns
unfolding stirs_in
returns c =
    let r = c.args.r in
    let w : r.writer % slots % slots ≡ r.writer % slots = mod-eq_of_lt (omega arith) in
    simp (c.only.ensures, c.has.ensures, w)
