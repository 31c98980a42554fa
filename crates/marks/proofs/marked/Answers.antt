-- `marks::marked` meets its contract: the bit of the byte; beyond the end the byte is 0. Assumes nothing.
use mathlib.Core.Path.{sym, ap, ◌∙◌}
use Prim.Native.Nat.{ℕ, ◌/◌, ◌%◌}
use lib.ListN.{get_or, get_or-eq_default}
use Rattle.sets.specs.Mask.{mem}
use Rattle.marks.specs.Table.{is_marked}
use Rattle.sets.proofs.MaskLaws.{shr_and_one, mem_empty}
use Rattle.marks.proofs.marked.Goals as goal

pub returns-then-i-table : goal.returns-then-i-table
unfolding is_marked
returns-then-i-table c = let a = c.args in shr_and_one (get_or a.table.now (a.set / 8) 0) (a.set % 8)

pub returns : goal.returns
unfolding is_marked
returns c =
    let a = c.args in
    sym (ap (λ (b : ℕ). mem b (a.set % 8)) (get_or-eq_default a.table.now 0 c.if-i-table.false) ∙ mem_empty (a.set % 8))
