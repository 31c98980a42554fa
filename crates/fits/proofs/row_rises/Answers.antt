-- `fits::row_rises` meets its contract: the last row is the one before. Assumes nothing.
use native.Mathlib.Omega.{arith}
use borrow.Author.Tests.{ne_eqb}
use Prim.Native.Nat.{◌-◌, ◌<◌}
use Rattle.basis.specs.Test.{◌or◌}
use Rattle.content.specs.Content.{row_rises}
use Rattle.entries.proofs.EntriesLaws.{rows_count, row_at_lem}
use Rattle.fits.proofs.row_rises.Goals as goal

pub returns-then-n-eq0 : goal.returns-then-n-eq0
unfolding row_rises ◌or◌
returns-then-n-eq0 c = simp (rows_count, c.if-n-eq0.true)

pub returns : goal.returns
unfolding row_rises ◌or◌
returns c = let h : c.args.x.rows - 1 < c.args.x.rows = omega (arith, c.if-n-eq0.false) in simp (c.row_below.ensures, c.row_no.ensures, rows_count, ne_eqb _ _ c.if-n-eq0.false, row_at_lem c.args.s.now c.args.x.head.edition c.args.x.rows_at c.args.x.rows (c.args.x.rows - 1) h)
