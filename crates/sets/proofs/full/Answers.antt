-- `sets::full` meets its contract: below the width by a shift, and else all bits. Assumes nothing.
use mathlib.Core.Path.{◌≡◌, ap, ◌∙◌}
use Prim.Native.Nat.{ℕ, ◌-◌, min}
use native.Mathlib.Omega.{arith}
use lib.Pow.{pow_pos}
use Rattle.sets.specs.Mask.{slots, full}
use Rattle.sets.proofs.MaskLaws.{one_shl}
use Rattle.sets.proofs.full.Goals as goal

pub overflow_sub-result : goal.overflow_sub-result
overflow_sub-result c = omega (arith, one_shl slots c.args.n c.if-n-lt-SLOTS.true, pow_pos c.args.n)

pub returns-then-n-lt-SLOTS : goal.returns-then-n-lt-SLOTS
returns-then-n-lt-SLOTS c = let n = c.args.n in
    let e : n ≡ min n slots = omega arith in
    ap (λ (x : ℕ). x - 1) (one_shl slots n c.if-n-lt-SLOTS.true) ∙ ap full e

pub returns-else-n-lt-SLOTS : goal.returns-else-n-lt-SLOTS
returns-else-n-lt-SLOTS c = let e : slots ≡ min c.args.n slots = omega arith in ap full e
