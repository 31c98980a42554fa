-- `log_order::note` meets its contract: earlier holds what stands before each of the numbers so far. Assumes nothing.
use mathlib.Core.Path.{sym, ◌∙◌, subst}
use Prim.Native.Nat.{ℕ, ◌+◌}
use native.Mathlib.Omega.{arith}
use lib.ListN.{length-set}
use Rattle.log_order.specs.steps.Masks.{Stood, Ranked}
use Rattle.log_order.proofs.MasksLaws.{stood_empty, stood_more, ranked_more}
use Rattle.log_order.proofs.note.Goals as goal

pub loop-number-init : goal.loop-number-init
loop-number-init c = (c.requires.1, stood_empty c.args.list.now, c.requires.2)

pub loop-number-preserved : goal.loop-number-preserved
loop-number-preserved c =
    let l = c.loop-number in
    let a = c.args in
    let i = l.number-index in
    let h = c.requires.0 i (omega arith) in
    (length-set l.earlier _ _ ∙ l.invariant.0, subst (Stood a.list.now (i + 1)) (sym c.with-s.ensures) (stood_more a.list.now i l.s l.invariant.1 h), ranked_more a.list.now i l.s l.earlier l.invariant.1 l.invariant.2 l.invariant.0 h)

pub returns : goal.returns
returns c =
    let l = c.loop-number in
    subst (λ (x : ℕ). Ranked c.args.list.now x l.earlier) (omega arith) l.invariant.2
