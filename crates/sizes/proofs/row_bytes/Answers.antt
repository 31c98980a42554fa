-- `sizes::row_bytes` meets its contract by computation. Assumes nothing.
use mathlib.Core.Path.{refl}
use Rattle.format.specs.Layout.{row_bytes}
use Rattle.sizes.proofs.row_bytes.Goals as goal

pub returns : goal.returns
unfolding row_bytes
returns c = refl
