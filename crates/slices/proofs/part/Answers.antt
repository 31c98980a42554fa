-- `slices::part` meets its contract: the whole part, what there is of it, or nothing. Assumes nothing.
use native.Mathlib.Omega.{arith}
use native.Mathlib.Nat.{add-sub_cancel_left}
use Rattle.basis.proofs.ListLaws.{part_short, part_none}
use Rattle.slices.proofs.part.Goals as goal

pub returns-then-n-v : goal.returns-then-n-v
returns-then-n-v c = simp add-sub_cancel_left

pub returns-else-n-v : goal.returns-else-n-v
returns-else-n-v c = part_short c.args.v.now c.args.start c.args.n (omega arith)

pub returns-else-start-v : goal.returns-else-start-v
returns-else-start-v c = part_none c.args.v.now c.args.start c.args.n (omega arith)
