-- `content::kind_fits` meets its contract, kind by kind. Assumes nothing.
use mathlib.Core.Path.{◌≡◌, refl}
use mathlib.Core.Bool.{Bool, true, false, cond}
use Prim.Native.Nat.{ℕ}
use native.Mathlib.Omega.{arith}
use borrow.Author.Tests.{eqb-true}
use lib.Dec.{eqb}
use Rattle.basis.specs.Test.{◌and◌, ◌or◌}
use Rattle.basis.proofs.BoolLaws.{or_none}
use Rattle.format.specs.Shape.{sc}
use Rattle.content.specs.Content.{sized, kind_fits}
use Rattle.content.proofs.kind_fits.Goals as goal

by_kind : (k : ℕ) (y z m : Bool)
    → ((((eqb k 1 or eqb k 2) or (eqb k 3 and y)) and z) or (eqb k 4 and m))
    ≡ cond (eqb k 1) z (cond (eqb k 2) z (cond (eqb k 3) (y and z) (cond (eqb k 4) m false)))
unfolding ◌and◌ ◌or◌
by_kind k y z m = go (eqb k 1) refl (eqb k 2) refl (eqb k 3) refl (eqb k 4) refl
  where
    go : (a : Bool) → eqb k 1 ≡ a → (b : Bool) → eqb k 2 ≡ b → (c : Bool) → eqb k 3 ≡ c → (d : Bool) → eqb k 4 ≡ d
        → ((((a or b) or (c and y)) and z) or (d and m)) ≡ cond a z (cond b z (cond c (y and z) (cond d m false)))
    go true p b q c r true t = absurd (let v = eqb-true k 1 p in let u = eqb-true k 4 t in omega arith)
    go true p b q c r false t = or_none z
    go false p true q c r true t = absurd (let v = eqb-true k 2 q in let u = eqb-true k 4 t in omega arith)
    go false p true q c r false t = or_none z
    go false p false q true r true t = absurd (let v = eqb-true k 3 r in let u = eqb-true k 4 t in omega arith)
    go false p false q true r false t = or_none (y and z)
    go false p false q false r true t = refl
    go false p false q false r false t = refl

pub returns : goal.returns
unfolding kind_fits ◌and◌ ◌or◌
returns c =
    simp (c.sc-sc.ensures, c.sized.ensures)
    (by_kind c.args.a.kind
    (sc c.args.a)
    (sized c.args.a) (sc c.args.a and eqb c.args.a.start 0 and eqb c.args.a.width 0))
