-- `marks::needed` meets its contract: by the laws of `bytes_for`. Assumes nothing.
use mathlib.Core.Path.{◌≡◌, sym, ap, ◌∙◌}
use Prim.Native.Nat.{ℕ, ◌-◌, min}
use native.Mathlib.Omega.{arith}
use Rattle.sets.specs.Mask.{slots}
use Rattle.marks.specs.Table.{bytes_for}
use Rattle.sets.proofs.MaskLaws.{one_shl}
use Rattle.marks.proofs.TableLaws.{bytes_few, bytes_many}
use Rattle.marks.proofs.needed.Goals as goal

pub returns-then-n-lt3 : goal.returns-then-n-lt3
returns-then-n-lt3 c =
    let n = c.args.n in
    let e : n ≡ min n slots = omega arith in
    sym (bytes_few n c.if-n-lt3.true) ∙ ap (λ (x : ℕ). bytes_for x) e

pub returns-then-n-lt-SLOTS : goal.returns-then-n-lt-SLOTS
returns-then-n-lt-SLOTS c =
    let n = c.args.n in
    let e : n ≡ min n slots = omega arith in
    one_shl 64 (n - 3) (omega arith) ∙ sym (bytes_many n c.if-n-lt3.false) ∙ ap (λ (x : ℕ). bytes_for x) e

pub returns : goal.returns
returns c = let e : slots ≡ min c.args.n slots = omega arith in ap (λ (x : ℕ). bytes_for x) e
