-- `take_row::rises` meets its contract: none stands before the first row, and the value of another ends where this one starts. Assumes nothing.
use Prim.Native.Nat.{◌-◌}
use native.Mathlib.Omega.{arith}
use lib.ListN.{drop}
use Rattle.format.specs.Layout.{row_bytes}
use Rattle.format.proofs.LayoutLaws.{row_front}
use Rattle.take_row.proofs.TakenLaws.{rise_first, rise_none, rise_then}
use Rattle.take_row.proofs.rises.Goals as goal

pub returns-then-x-eq0 : goal.returns-then-x-eq0
returns-then-x-eq0 c = let a = c.args in rise_first a.s.now a.p a.x a.r c.if-x-eq0.true

pub returns-then-end-lt3 : goal.returns-then-end-lt3
returns-then-end-lt3 c = let a = c.args in rise_none a.s.now a.p a.x a.r c.if-x-eq0.false c.if-end-lt3.true

pub returns : goal.returns
unfolding row_bytes
returns c = let a = c.args in rw (c.row_below.ensures, c.row_of.ensures, row_front a.x.head.edition (drop (a.p - 3) a.s.now) (a.p - (a.p - 3)) (let h = c.if-end-lt3.false in omega arith)) (rise_then a.s.now a.p a.x a.r c.if-x-eq0.false c.if-end-lt3.false)
