-- `sift::near` meets its contract: the masks have gained the events that are no longer left. Assumes nothing.
use mathlib.Core.Path.{◌≡◌, ap, ◌∙◌, subst}
use Prim.Native.Nat.{ℕ, ◌*◌, ◌<◌}
use native.Mathlib.Nat.{mod-eq_of_lt}
use native.Mathlib.Omega.{arith}
use Rattle.sets.specs.Mask.{slots, insert}
use Rattle.tables.specs.Tables.{shape_in}
use Rattle.sift.specs.steps.Near.{Near}
use Rattle.sift.proofs.NearLaws.{near_none, near_next}
use Rattle.sift.proofs.near.Goals as goal

pub loop-v-init : goal.loop-v-init
loop-v-init c =
    let a = c.args in
    rw (c.into_iter-v-iterator.ensures.into_iter_gives, c.members-v-items.ensures) (near_none a.t.now a.writers a.bytes.now (omega arith))

pub loop-v-preserved : goal.loop-v-preserved
loop-v-preserved c =
    let l = c.loop-v in
    let a = c.args in
    let t = a.t.now in
    let v : ℕ = c.in-Some.v in
    let k = c.in-Some.ensures.steps in
    let is : c.shape-a.result ≡ shape_in t (2 * v) = c.shape-a.ensures ∙ ap (shape_in t) (mod-eq_of_lt (let h : v < slots = k.slot in omega arith)) in
    near_next t a.writers l.v-iterator.left a.bytes.now l.bytes l.invariant v k.member c.shape-a.result is c.with.result (c.with.ensures ∙ ap (insert 0) (mod-eq_of_lt k.slot)) _ c.cover.ensures _ k.rest

pub returns : goal.returns
returns c =
    let a = c.args in
    subst (λ (x : ℕ). Near a.t.now a.writers x a.bytes.now c.loop-v.bytes) c.in-None.ensures.steps.0 c.loop-v.invariant
