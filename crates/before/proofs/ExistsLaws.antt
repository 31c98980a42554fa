-- The direct steps of any tables can be closed (specs/Before.antt): that there are masks as `ClosedSteps` says, with no code. Assumes nothing.
--     steps_exist    for all tables there are such masks
use mathlib.Core.Path.{refl}
use mathlib.Core.List.{List}
use Prim.Native.Nat.{ℕ}
use native.Mathlib.Omega.{arith}
use Rattle.closing.specs.Closure.{taken}
use Rattle.closing.proofs.ExistsLaws.{closed_exists}
use Rattle.before.specs.Before.{steps_in, columns_in, ClosedSteps}

pub steps_exist : (t : List ℕ) (n : ℕ) (q : List ℕ) (m : ℕ) (p : List ℕ) (k : ℕ) (succ pred : List ℕ)
    → (succ' : List ℕ) × (pred' : List ℕ) × ClosedSteps t n q m p k succ succ' pred pred'
steps_exist t n q m p k succ pred =
    let rows = steps_in t n q m p k succ in
    let c = closed_exists (taken n rows) rows (omega arith) in
    (c.0, columns_in c.0 n pred, record { closed = c.1; turned = refl })
