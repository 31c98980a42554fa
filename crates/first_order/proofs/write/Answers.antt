-- `first_order::write` meets its contract: the first i places are written. Assumes nothing.
use mathlib.Core.Path.{◌≡◌, sym, ap, ◌∙◌}
use mathlib.Core.List.{List, ◌++◌}
use Prim.Native.Nat.{ℕ, ◌+◌}
use native.Mathlib.Nat.{zero-add}
use native.Mathlib.Numerals.{add-one}
use native.Mathlib.Omega.{arith}
use lib.ListN.{length, get_or, take, drop, set, drop_of_length-le}
use lib.Seq.{paste, paste-zero, paste-suc}
use Rattle.std.proofs.Common.{append-nil}
use Rattle.std.proofs.lemmas.List.{length-take-le}
use Rattle.basis.specs.Test.{from}
use Rattle.orders.proofs.InitsLaws.{from_length}
use Rattle.first_order.proofs.write.Goals as goal

pub loop-i-init : goal.loop-i-init
loop-i-init c = let a = c.args in paste-zero (take a.m a.order.now) 0 (from 0 a.k ++ a.path.now)

pub event_at-requires : goal.event_at-requires
event_at-requires c = let a = c.args in let z = length-take-le a.m a.order.now c.requires.3 in omega (arith, z)

pub loop-i-preserved : goal.loop-i-preserved
loop-i-preserved c =
    let a = c.args in
    let i = c.loop-i.i in
    let src = from 0 a.k ++ a.path.now in
    let l = from_length 0 a.k a.path.now in
    let z = length-take-le a.m a.order.now c.requires.3 in
    let e : 0 + i ≡ i = zero-add i in
    rw (c.event_at.ensures, add-one, c.loop-i.invariant) (ap (λ (x : ℕ). set (paste (take a.m a.order.now) 0 src i) x (get_or src i 0)) (sym e) ∙ paste-suc (take a.m a.order.now) 0 src i 0 (omega (arith, e, z)) (omega (arith, l, z)))

pub returns : goal.returns
returns c =
    let a = c.args in
    let src = from 0 a.k ++ a.path.now in
    let d = take a.m a.order.now in
    let z = length-take-le a.m a.order.now c.requires.3 in
    let e : c.loop-i.i ≡ a.m = omega (arith, z) in
    let end : drop (0 + a.m) d ≡ drop a.m d = ap (λ (x : ℕ). drop x d) (zero-add a.m) in
    ap (λ (x : List ℕ). x ++ drop a.m a.order.now)
    (c.loop-i.invariant ∙ ap (λ (x : ℕ). paste d 0 src x) e ∙ ap (λ (x : List ℕ). take a.m src ++ x) (end ∙ drop_of_length-le d (omega (arith, z))) ∙ append-nil (take a.m src))
