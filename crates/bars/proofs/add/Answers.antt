-- `bars::add` meets its contract: the bars of the first j rows are added. The measure is what is left. Assumes nothing.
use mathlib.Core.Path.{◌≡◌, ap, ◌∙◌}
use Prim.Native.Nat.{ℕ, ◌-◌, ◌%◌, min}
use native.Mathlib.Nat.{mod-eq_of_lt}
use native.Mathlib.Omega.{arith}
use lib.ListN.{length}
use Rattle.format.specs.declared.Row.{Row}
use Rattle.sets.specs.Mask.{slots}
use Rattle.cells.specs.Cells.{spread}
use Rattle.tables.specs.Tables.{row_room, row_in}
use Rattle.bars.specs.Bars.{add_in, bars_in}
use Rattle.bars.proofs.BarsLaws.{bars_none, bars_more, bars_length}
use Rattle.bars.proofs.add.Goals as goal

pub loop-j-init : goal.loop-j-init
loop-j-init c =
    (omega arith, omega arith, bars_none c.args.t.now c.args.eq.now c.args.succ.now c.args.pred.now c.args.q.now _)

pub loop-j-preserved : goal.loop-j-preserved
loop-j-preserved c =
    let l = c.loop-j in
    let a = c.args in
    let is : c.row-r.result ≡ row_in a.q.now l.j = c.row-r.ensures ∙ ap (row_in a.q.now) (mod-eq_of_lt (omega arith)) in (
      omega arith,
      l.invariant.1,
      c.spread.ensures
          ∙ ap (λ (m : ℕ). spread l.bars m (c.row-r.result.writer % slots) (c.row-r.result.reader % slots)) c.of_row-barred.ensures
          ∙ ap (λ (r : Row). add_in a.t.now a.eq.now a.succ.now a.pred.now r l.bars) is
          ∙ ap (add_in a.t.now a.eq.now a.succ.now a.pred.now (row_in a.q.now l.j)) l.invariant.2
          ∙ bars_more a.t.now a.eq.now a.succ.now a.pred.now a.q.now a.bars.now l.j,
    )

pub shape_of-bars : goal.shape_of-bars
shape_of-bars c =
    let a = c.args in ap length c.loop-j.invariant.2 ∙ bars_length a.t.now a.eq.now a.succ.now a.pred.now a.q.now a.bars.now c.loop-j.j

pub returns : goal.returns
returns c =
    let l = c.loop-j in
    let a = c.args in
    let z = c.least-m.ensures in
    let e : l.j ≡ min a.n row_room = omega arith in
    l.invariant.2 ∙ ap (λ (x : ℕ). bars_in a.t.now a.eq.now a.succ.now a.pred.now a.q.now x a.bars.now) e
