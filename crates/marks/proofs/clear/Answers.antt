-- `marks::clear` meets its contract: the first bytes are zero, and the rest is as it was. Assumes nothing.
use mathlib.Core.Path.{ap, ◌∙◌}
use mathlib.Core.List.{List, ◌++◌}
use Prim.Native.Nat.{ℕ, ◌≤◌}
use native.Mathlib.Omega.{arith}
use lib.ListN.{length, drop, replicate}
use Rattle.std.proofs.lemmas.List.{length-take-le}
use Rattle.marks.proofs.TableLaws.{cleared_min}
use Rattle.marks.proofs.clear.Goals as goal

pub returns : goal.returns
returns c =
    let t = c.args.table.now in
    let n = c.least-n.result in
    let e = c.least-n.ensures in
    let h : n ≤ length t = omega arith in
    let z = c.fill.ensures.after (λ y h. h) in
    ap (λ (x : List ℕ). x ++ drop n t) (z ∙ ap (λ (k : ℕ). replicate k 0) (length-take-le n t h)) ∙ cleared_min c.args.len n t e
