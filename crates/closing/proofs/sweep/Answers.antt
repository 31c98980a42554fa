-- `closing::sweep` meets its contract: the rows so far are rewritten (`Rewritten`), each by what both pivots lead to, which is what pivot j makes of
-- what pivot k makes of it (`absorb_then`). Assumes nothing.
use native.Mathlib.Omega.{arith}
use Rattle.std.proofs.lemmas.List.{length-take-le}
use Rattle.closing.specs.steps.Sweep.{succ_of}
use Rattle.closing.proofs.SweepLaws.{swept_row, rewritten_none, rewritten_more, rewritten_row, swept_items}
use Rattle.closing.proofs.sweep.Goals as goal

pub loop-x-init : goal.loop-x-init
loop-x-init c = rewritten_none _ _ _

pub loop-x-preserved : goal.loop-x-preserved
loop-x-preserved c =
    let l = c.loop-x in
    let a = c.args in
    let z = length-take-le a.n a.rows.now c.requires.3 in
    rewritten_more c.absorb_both.result (omega (arith, z)) (omega arith)
    (swept_row (succ_of a.rows.now) a.k a.j l.x-index (omega arith) (omega arith) (rewritten_row a.rows.now l.invariant (omega (arith, z))) c.absorb-other.ensures c.absorb-row.ensures c.absorb_both.ensures)
    l.invariant

pub returns : goal.returns
returns c = let z = length-take-le c.args.n c.args.rows.now c.requires.3 in swept_items c.requires.3 (omega (arith, z)) c.loop-x.invariant
