-- `first_order::event_at` meets its contract: before the path stand the inits. Assumes nothing.
use mathlib.Core.Path.{◌≡◌, sym, ap, ◌∙◌}
use mathlib.Core.List.{◌++◌}
use Prim.Native.Nat.{ℕ, ◌-◌, ◌+◌}
use native.Mathlib.Nat.{zero-add}
use native.Mathlib.Omega.{arith}
use lib.ListN.{get_or}
use Rattle.basis.specs.Test.{from}
use Rattle.orders.proofs.InitsLaws.{from_low, from_high}
use Rattle.first_order.proofs.event_at.Goals as goal

pub returns-then-i-k : goal.returns-then-i-k
returns-then-i-k c = let a = c.args in sym (from_low 0 a.k a.i a.path.now c.if-i-k.true ∙ zero-add a.i)

pub returns : goal.returns
returns c =
    let a = c.args in
    let e : a.k + (a.i - a.k) ≡ a.i = omega arith in
    sym (from_high 0 a.k (a.i - a.k) a.path.now) ∙ ap (λ (x : ℕ). get_or (from 0 a.k ++ a.path.now) x 0) e
