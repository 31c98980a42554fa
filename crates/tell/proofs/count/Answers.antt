-- `tell::count` meets its contract. The invariant: the events placed are the first n, and those of the rest. Assumes nothing.
use mathlib.Core.Path.{◌≡◌, refl, subst}
use Prim.Native.Nat.{ℕ}
use native.Mathlib.Omega.{arith}
use lib.ListN.{length, take}
use Rattle.tell.specs.JudgedLine.{placed}
use Rattle.tell.proofs.JudgedLineLaws.{placed_stop, placed_more, placed_end}
use Rattle.tell.proofs.count.Goals as goal

pub loop-n-init : goal.loop-n-init
loop-n-init c = refl

pub returns-then-order-n : goal.returns-then-order-n
returns-then-order-n c =
    record { within = omega arith; counted = placed_stop c.args.order.now c.loop-n.n c.loop-n.invariant c.loop-n-test.true c.if-order-n.true }

pub loop-n-preserved : goal.loop-n-preserved
loop-n-preserved c = placed_more c.args.order.now c.loop-n.n c.loop-n.invariant c.loop-n-test.true c.if-order-n.false

pub returns : goal.returns
returns c = let e : c.loop-n.n ≡ length c.args.order.now = omega arith in record { within = omega arith; counted = subst (λ (n : ℕ). take n c.args.order.now ≡ placed c.args.order.now) e (placed_end c.args.order.now c.loop-n.n c.loop-n.invariant c.loop-n-test.false) }
