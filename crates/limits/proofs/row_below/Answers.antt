-- `limits::row_below` meets its contract: reader and address as one number, which rises as the two do. Assumes nothing.
use mathlib.Core.Path.{◌≡◌, refl}
use mathlib.Core.Bool.{Bool, true, false}
use Prim.Native.Nat.{ℕ, ◌+◌, ◌*◌, ◌<◌, ◌≤◌}
use native.Mathlib.Omega.{arith}
use borrow.Author.Tests.{eqb-true, eqb-false, ltb-true, ltb-false, lt-ltb, le-ltb}
use lib.Dec.{eqb, ltb}
use Rattle.basis.specs.Test.{◌and◌, ◌or◌}
use Rattle.format.specs.Execution.{row_below}
use Rattle.limits.proofs.row_below.Goals as goal

as_one : (a b c d : ℕ) → b < 256 → d < 256 → ltb (a * 256 + b) (c * 256 + d) ≡ (ltb a c or (eqb a c and ltb b d))
unfolding ◌and◌ ◌or◌
as_one a b c d h k = go (ltb a c) refl (eqb a c) refl (ltb b d) refl
  where
    go : (u : Bool) → ltb a c ≡ u → (v : Bool) → eqb a c ≡ v → (w : Bool) → ltb b d ≡ w → ltb (a * 256 + b) (c * 256 + d) ≡ (u or (v and w))
    go true p v q w r = let l = ltb-true a c p in lt-ltb (a * 256 + b) (c * 256 + d) (omega arith)
    go false p true q true r = let e = eqb-true a c q in let l = ltb-true b d r in lt-ltb (a * 256 + b) (c * 256 + d) (omega arith)
    go false p true q false r = let e = eqb-true a c q in let l = ltb-false b d r in le-ltb (a * 256 + b) (c * 256 + d) (omega arith)
    go false p false q w r = let l = ltb-false a c p in let m : c < a = above (eqb-false a c q) l in le-ltb (a * 256 + b) (c * 256 + d) (omega arith)
      where
        above : (a ≡ c → ⊥) → c ≤ a → c < a
        above n l = omega arith

pub returns : goal.returns
unfolding row_below
returns c = as_one c.args.q.reader c.args.q.address c.args.r.reader c.args.r.address (omega arith) (omega arith)
