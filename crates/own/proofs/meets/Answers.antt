-- `own::meets` meets its contract, access by access. Assumes nothing.
use Prim.Native.Nat.{◌%◌}
use native.Mathlib.Omega.{arith}
use Rattle.sets.specs.Mask.{slots}
use Rattle.format.specs.Shape.{overlap}
use Rattle.tables.proofs.TablesLaws.{across_all}
use Rattle.own.specs.Own.{meets_in}
use Rattle.own.proofs.meets.Goals as goal

pub returns : goal.returns
unfolding meets_in
returns c =
    across_all overlap c.args.t.now (c.args.e % slots) (c.args.d % slots) (omega arith) (omega arith) c.shape-a.result c.shape-b.result c.shape-c.result c.shape-f.result c.shape-a.ensures c.shape-b.ensures c.shape-c.ensures c.shape-f.ensures c.overlap.result c.overlap-2.result c.overlap-3.result c.overlap-4.result c.overlap.ensures c.overlap-2.ensures c.overlap-3.ensures c.overlap-4.ensures
