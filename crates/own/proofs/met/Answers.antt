-- `own::met` meets its contract: s has what passes below d. The measure is what is left. Assumes nothing.
use mathlib.Core.Path.{◌≡◌, sym, ap, ◌∙◌}
use mathlib.Core.Bool.{cond}
use Prim.Native.Nat.{ℕ, ◌-◌, ◌%◌, min}
use native.Mathlib.Nat.{mod-eq_of_lt}
use native.Mathlib.Omega.{arith}
use Rattle.sets.specs.Mask.{slots, insert}
use Rattle.cells.specs.Walk.{picked}
use Rattle.cells.proofs.WalkLaws.{picked_none, picked_more}
use Rattle.own.specs.Own.{met_in}
use Rattle.own.proofs.met.Goals as goal

pub loop-d-init : goal.loop-d-init
loop-d-init c = (omega arith, omega arith, picked_none _)

pub loop-d-preserved : goal.loop-d-preserved
loop-d-preserved c =
    let l = c.loop-d in
    let f = met_in c.args.t.now (c.args.e % slots) in
    let slot : l.d % slots ≡ l.d = mod-eq_of_lt (omega arith) in
    let is = c.met_by.ensures ∙ ap f slot in
    (omega arith, l.invariant.1, c.take-s.ensures ∙ (λ z. cond (is z) (insert (l.invariant.2 z) (slot z)) (l.invariant.2 z)) ∙ sym (picked_more l.d f))

pub returns : goal.returns
returns c =
    let l = c.loop-d in
    let z = c.least-m.ensures in
    let k : l.d ≡ min c.args.n slots = omega arith in
    l.invariant.2 ∙ ap (λ (x : ℕ). picked x (met_in c.args.t.now (c.args.e % slots))) k
