-- `sets::has` meets its contract: the test is the definition. Assumes nothing.
use Prim.Native.Nat.{◌%◌}
use Rattle.sets.specs.Mask.{slots}
use Rattle.sets.proofs.MaskLaws.{shr_and_one}
use Rattle.sets.proofs.has.Goals as goal

pub returns : goal.returns
returns c = shr_and_one c.args.s (c.args.e % slots)
