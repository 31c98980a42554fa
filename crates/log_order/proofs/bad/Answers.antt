-- `log_order::bad` meets its contract: what stands before j passes not, and s is its set. Assumes nothing.
use mathlib.Core.Path.{◌≡◌, sym, ◌∙◌, subst}
use mathlib.Core.Bool.{false}
use Prim.Native.Nat.{ℕ, ◌+◌}
use native.Mathlib.Omega.{arith}
use borrow.Author.Count.{below_more}
use lib.ListN.{length}
use Rattle.cells.proofs.FirstLaws.{some_here, some_none}
use Rattle.log_order.specs.Listed.{bad_at}
use Rattle.log_order.specs.steps.Masks.{Stood}
use Rattle.log_order.proofs.MasksLaws.{stood_empty, stood_more, bad_twice, bad_not}
use Rattle.log_order.proofs.ListLaws.{bad_range}
use Rattle.log_order.proofs.bad.Goals as goal

pub loop-j-init : goal.loop-j-init
loop-j-init c = (stood_empty c.args.list.now, λ d h. absurd (omega arith))

pub returns-then-m-x : goal.returns-then-m-x
returns-then-m-x c =
    let l = c.loop-j in
    let a = c.args in
    some_here (bad_at a.m a.list.now) (length a.list.now) l.j (omega arith) l.invariant.1 (bad_range a.m a.list.now l.j (omega arith))

pub returns-then-has : goal.returns-then-has
returns-then-has c =
    let l = c.loop-j in
    let a = c.args in
    some_here (bad_at a.m a.list.now) (length a.list.now) l.j (omega arith) l.invariant.1 (bad_twice a.m a.list.now l.j l.s l.invariant.0 (omega arith) (omega arith) (sym c.has.ensures ∙ c.if-has.true))

pub loop-j-preserved : goal.loop-j-preserved
loop-j-preserved c =
    let l = c.loop-j in
    let a = c.args in
    (subst (Stood a.list.now (l.j + 1)) (sym c.with-s.ensures) (stood_more a.list.now l.j l.s l.invariant.0 (omega arith)), below_more (λ (d : ℕ). bad_at a.m a.list.now d ≡ false) l.j l.invariant.1 (bad_not a.m a.list.now l.j l.s l.invariant.0 (omega arith) (omega arith) (sym c.has.ensures ∙ c.if-has.false)))

pub returns : goal.returns
returns c =
    let l = c.loop-j in
    let a = c.args in
    some_none (bad_at a.m a.list.now) (length a.list.now) (λ d h. l.invariant.1 d (omega arith))
