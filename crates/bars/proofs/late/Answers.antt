-- `bars::late` meets its contract. Assumes nothing.
use Prim.Native.Nat.{◌%◌}
use native.Mathlib.Omega.{arith}
use Rattle.sets.specs.Mask.{slots}
use Rattle.bars.proofs.ListedLaws.{late_mem}
use Rattle.bars.proofs.late.Goals as goal

pub returns : goal.returns
returns c =
    let a = c.args in
    λ v. late_mem a.k a.pred.now (a.w % slots) a.m c.only.result v (omega arith) (omega arith) c.only.ensures
