-- `own::lone` meets its contract: of the first k slots it is known. The measure is what is left. Assumes nothing.
use mathlib.Core.Path.{◌≡◌, ap, subst, ◌∙◌}
use Prim.Native.Nat.{ℕ, ◌-◌}
use native.Mathlib.Nat.{mod-eq_of_lt}
use native.Mathlib.Omega.{arith}
use Rattle.tables.specs.Tables.{accesses, shape_in}
use Rattle.tables.proofs.SecondsLaws.{Looked, looked_none, looked_more, looked_all}
use Rattle.own.proofs.LoneLaws.{there, lone_seconds}
use Rattle.own.proofs.lone.Goals as goal

pub loop-k-init : goal.loop-k-init
loop-k-init c = (omega arith, looked_none there c.args.t.now)

pub loop-k-preserved : goal.loop-k-preserved
loop-k-preserved c =
    let l = c.loop-k in
    let t = c.args.t.now in
    let is = ap there (c.shape-a.ensures ∙ ap (shape_in t) (mod-eq_of_lt (omega arith))) in
    (omega arith, looked_more there t l.k l.c _ (omega arith) is l.invariant.1)

pub returns : goal.returns
returns c =
    let l = c.loop-k in
    let t = c.args.t.now in
    let k : l.k ≡ accesses = omega arith in
    lone_seconds t (looked_all there t l.c (subst (λ (i : ℕ). Looked there t i l.c) k l.invariant.1))
