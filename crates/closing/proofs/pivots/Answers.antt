-- `closing::pivots` meets its contract: the first e rows have been looked at (`Looked`). Assumes nothing.
use mathlib.Core.Path.{◌≡◌, ap, ◌∙◌, subst}
use Prim.Native.Nat.{ℕ, ◌%◌}
use native.Mathlib.Omega.{arith}
use Rattle.std.proofs.lemmas.List.{get_or-take, length-take-le}
use Rattle.sets.specs.Mask.{slots}
use Rattle.closing.specs.steps.Sweep.{noted}
use Rattle.closing.proofs.SweepLaws.{Looked, looked_none, looked_more, looked_all}
use Rattle.closing.proofs.pivots.Goals as goal

pub loop-e-init : goal.loop-e-init
loop-e-init c = looked_none _

pub loop-e-preserved : goal.loop-e-preserved
loop-e-preserved c =
    let l = c.loop-e in
    let z = length-take-le c.args.n c.args.rows.now c.requires.1 in
    let x = get_or-take c.args.n c.args.rows.now l.e 0 (omega (arith, z)) in
    rw x (looked_more l.invariant (omega (arith, z)) (c.note-from.ensures ∙ ap (noted l.from (l.e % slots)) x))

pub returns : goal.returns
returns c =
    let l = c.loop-e in
    let z = length-take-le c.args.n c.args.rows.now c.requires.1 in
    let all : l.e ≡ c.args.n = omega (arith, z) in
    looked_all (subst (λ (x : ℕ). Looked x c.args.rows.now l.into l.from) all l.invariant)
