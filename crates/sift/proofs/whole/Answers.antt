-- `sift::whole` meets its contract, test by test. Assumes nothing.
use mathlib.Core.Path.{◌≡◌}
use Prim.Native.Nat.{◌*◌, ◌%◌}
use native.Mathlib.Nat.{mod-eq_of_lt}
use native.Mathlib.Omega.{arith}
use Rattle.basis.specs.Test.{◌and◌}
use Rattle.sets.specs.Mask.{slots}
use Rattle.tables.specs.Tables.{accesses}
use Rattle.sift.specs.Clean.{whole_in}
use Rattle.sift.proofs.whole.Goals as goal

pub returns : goal.returns
unfolding whole_in ◌and◌
returns c =
    let r = c.args.r in
    let i : 2 * (r.reader % slots) % accesses ≡ 2 * (r.reader % slots) = mod-eq_of_lt (omega arith) in
    let j : 2 * (r.writer % slots) % accesses ≡ 2 * (r.writer % slots) = mod-eq_of_lt (omega arith) in
    simp (c.equal.ensures, c.tear_free.ensures, c.tear_free-2.ensures, c.shape-a.ensures, c.shape-b.ensures, i, j)
