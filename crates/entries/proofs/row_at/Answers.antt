-- `entries::row_at` meets its contract by the bytes of a row. Assumes nothing.
use native.Mathlib.Omega.{arith}
use Rattle.format.specs.Layout.{row_bytes}
use Rattle.entries.proofs.row_at.Goals as goal

pub overflow_mul-result : goal.overflow_mul-result
unfolding row_bytes
overflow_mul-result c = rw c.row_bytes.ensures (omega arith)

pub overflow_add-result : goal.overflow_add-result
unfolding row_bytes
overflow_add-result c = rw c.row_bytes.ensures (omega arith)

pub returns : goal.returns
returns c = rw c.row_bytes.ensures
