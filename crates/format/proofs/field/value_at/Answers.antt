-- `format::field::value_at` meets its contract: the whole value, what there is of it, or nothing. Assumes nothing.
use native.Mathlib.Omega.{arith}
use native.Mathlib.Nat.{add-sub_cancel_left}
use Prim.Native.Nat.{◌+◌}
use Rattle.basis.proofs.ListLaws.{part_short, part_none}
use Rattle.format.specs.Field.{value_at}
use Rattle.format.proofs.field.value_at.Goals as goal

pub returns-then-len-s : goal.returns-then-len-s
unfolding value_at
returns-then-len-s c = simp (add-sub_cancel_left, c.length_at-len.ensures)

pub returns-else-len-s : goal.returns-else-len-s
unfolding value_at
returns-else-len-s c = simp (← c.length_at-len.ensures) (part_short c.args.s.now (c.args.at + 3) c.length_at-len.result (omega arith))

pub returns-else-start-s : goal.returns-else-start-s
unfolding value_at
returns-else-start-s c = simp (← c.length_at-len.ensures) (part_none c.args.s.now (c.args.at + 3) c.length_at-len.result (omega arith))
