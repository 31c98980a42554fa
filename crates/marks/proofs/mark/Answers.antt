-- `marks::mark` meets its contract: the bit is put into the byte; beyond the end there is none. Assumes nothing.
use mathlib.Core.Path.{sym, ap, ◌∙◌}
use Prim.Native.Nat.{ℕ, ◌/◌, ◌%◌}
use native.Mathlib.Omega.{arith}
use lib.Bits.{bit_or}
use lib.ListN.{get_or, set}
use lib.Seq.{set_out}
use Rattle.marks.specs.Table.{marking}
use Rattle.sets.proofs.MaskLaws.{one_shl, or_one}
use Rattle.marks.proofs.mark.Goals as goal

pub returns-then-i-table : goal.returns-then-i-table
unfolding marking
returns-then-i-table c =
    let a = c.args in
    let t = a.table.now in
    let b : ℕ = get_or t (a.set / 8) 0 in
    ap (λ (x : ℕ). set t (a.set / 8) x) (ap (λ (x : ℕ). bit_or b x) (one_shl 8 (a.set % 8) (omega arith)) ∙ or_one b (a.set % 8))

pub returns-else-i-table : goal.returns-else-i-table
unfolding marking
returns-else-i-table c = let a = c.args in sym (set_out a.table.now (a.set / 8) _ c.if-i-table.false)
