-- `sift::enter` meets its contract. Assumes nothing.
use mathlib.Core.Path.{◌≡◌, refl, ap, ◌∙◌}
use mathlib.Core.Bool.{Bool, true, false, cond, not, ◌&&◌}
use Prim.Native.Nat.{ℕ, ◌+◌, ◌≤◌}
use native.Mathlib.Omega.{arith}
use mir.Val.{bool_byte}
use lib.Dec.{eqb}
use Rattle.basis.specs.Test.{◌and◌, non}
use Rattle.basis.proofs.BoolLaws.{amp_and, not_non}
use Rattle.sift.proofs.enter.Goals as goal

by_test : (b : Bool) → bool_byte b ≡ cond b 1 0
by_test true = refl
by_test false = refl

at_most : (b : Bool) → bool_byte b ≤ 1
at_most true = omega arith
at_most false = omega arith

pub returns-then-n-ge-LIST : goal.returns-then-n-ge-LIST
returns-then-n-ge-LIST c = record { room = λ h. absurd (omega (arith, c.if-n-ge-LIST.true)); full = λ h. (refl, refl, refl, refl) }

pub overflow_add-result : goal.overflow_add-result
overflow_add-result c = let a = c.args in let z = at_most (not (eqb a.b 0) && not a.again) in omega (arith, z, c.if-n-ge-LIST.false)

pub returns : goal.returns
returns c = record { room = λ h. (let a = c.args in ap (λ (x : ℕ). a.n + x) (by_test (not (eqb a.b 0) && not a.again) ∙ ap (λ (x : Bool). cond x 1 0) (amp_and _ _ ∙ ap (λ (x : Bool). x and not a.again) (not_non (eqb a.b 0)) ∙ ap (λ (x : Bool). non (eqb a.b 0) and x) (not_non a.again))), refl, refl, refl); full = λ h. absurd (h (omega (arith, c.if-n-ge-LIST.false))) }
