-- `alike::single` meets its contract: of the first k slots it is known. The measure is what is left. Assumes nothing.
use mathlib.Core.Path.{◌≡◌, ap, subst, ◌∙◌}
use Prim.Native.Nat.{ℕ}
use native.Mathlib.Nat.{mod-eq_of_lt}
use native.Mathlib.Omega.{arith}
use Rattle.format.specs.Shape.{sc}
use Rattle.tables.specs.Tables.{accesses, shape_in}
use Rattle.tables.proofs.SecondsLaws.{Looked, looked_none, looked_more, looked_all}
use Rattle.alike.proofs.single.Goals as goal

pub loop-k-init : goal.loop-k-init
loop-k-init c = (omega arith, looked_none sc c.args.t.now)

pub loop-k-preserved : goal.loop-k-preserved
loop-k-preserved c =
    let l = c.loop-k in
    let t = c.args.t.now in
    let is = c.sc.ensures ∙ ap sc (c.shape.ensures ∙ ap (shape_in t) (mod-eq_of_lt (omega arith))) in
    (omega arith, looked_more sc t l.k l.c c.sc.result (omega arith) is l.invariant.1)

pub returns : goal.returns
returns c =
    let l = c.loop-k in
    let k : l.k ≡ accesses = omega arith in
    looked_all sc c.args.t.now l.c (subst (λ (i : ℕ). Looked sc c.args.t.now i l.c) k l.invariant.1)
