-- `entries::row_no` meets its contract: the front of what is left says the row. Assumes nothing.
use mathlib.Core.Path.{◌∙◌}
use Prim.Native.Nat.{◌+◌, ◌-◌}
use native.Mathlib.Omega.{arith}
use Rattle.format.specs.Field.{rest_at}
use Rattle.format.proofs.LayoutLaws.{row_front}
use Rattle.entries.proofs.row_no.Goals as goal

pub returns-then-end-s : goal.returns-then-end-s
returns-then-end-s c =
    c.row_of.ensures
    ∙ row_front c.args.x.head.edition (rest_at c.args.s.now c.row_at-p.result) (c.row_at-p.result + 3 + c.row_bytes.result - (c.row_at-p.result + 3)) (let e = c.row_bytes.ensures in omega arith)
    ∙ simp c.row_at-p.ensures

pub returns : goal.returns
returns c = simp (c.row_of-2.ensures, c.rest_at.ensures, c.row_at-p.ensures)
