-- `sizes::head_bytes` meets its contract by computation. Assumes nothing.
use mathlib.Core.Path.{refl}
use Rattle.format.specs.Layout.{head_bytes}
use Rattle.sizes.proofs.head_bytes.Goals as goal

pub returns : goal.returns
unfolding head_bytes
returns c = refl
