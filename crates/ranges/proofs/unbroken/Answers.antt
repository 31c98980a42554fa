-- `ranges::unbroken` meets its contract, width by width. Assumes nothing.
use mathlib.Core.Path.{◌≡◌, refl, sym, ap, ◌∙◌}
use mathlib.Core.Bool.{Bool, true, false}
use Prim.Native.Nat.{ℕ, ◌%◌}
use native.Mathlib.Nat.{mod-one}
use native.Mathlib.Omega.{arith}
use borrow.Author.Tests.{eqb-true, eq-eqb}
use lib.Dec.{eqb}
use Rattle.basis.specs.Test.{◌and◌, ◌or◌}
use Rattle.basis.proofs.BoolLaws.{or_none}
use Rattle.format.specs.Shape.{divides, unbroken}
use Rattle.ranges.proofs.unbroken.Goals as goal

by_width : (w s : ℕ) → (eqb w 1 or ((eqb w 2 and eqb (s % 2) 0) or (eqb w 4 and eqb (s % 4) 0))) ≡ unbroken w s
unfolding unbroken divides ◌and◌ ◌or◌
by_width w s = go (eqb w 1) refl (eqb w 2) refl (eqb w 4) refl
  where
    divided : (k : ℕ) → w ≡ k → eqb (s % k) 0 ≡ eqb (s % w) 0
    divided k e = ap (λ (n : ℕ). eqb (s % n) 0) (sym e)

    go : (a : Bool) → eqb w 1 ≡ a → (b : Bool) → eqb w 2 ≡ b → (c : Bool) → eqb w 4 ≡ c
        → (a or ((b and eqb (s % 2) 0) or (c and eqb (s % 4) 0))) ≡ ((a or b or c) and eqb (s % w) 0)
    go true p b q c r = sym (eq-eqb (s % 1) 0 (mod-one s)) ∙ divided 1 (eqb-true w 1 p)
    go false p true q true r = absurd (let x = eqb-true w 2 q in let y = eqb-true w 4 r in omega arith)
    go false p true q false r = or_none (eqb (s % 2) 0) ∙ divided 2 (eqb-true w 2 q)
    go false p false q true r = divided 4 (eqb-true w 4 r)
    go false p false q false r = refl

pub returns : goal.returns
unfolding ◌and◌ ◌or◌
returns c = by_width c.args.width c.args.start
