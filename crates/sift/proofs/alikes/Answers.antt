-- `sift::alikes` meets its contract: the masks have gained the events that are no longer left. Assumes nothing.
use mathlib.Core.Path.{◌≡◌, sym, ap, ◌∙◌, subst}
use mathlib.Core.List.{List}
use Prim.Native.Nat.{ℕ}
use native.Mathlib.Nat.{mod-eq_of_lt}
use native.Mathlib.Omega.{arith}
use lib.Dec.{eqb}
use lib.ListN.{length, get_or, length-replicate}
use Rattle.sets.specs.Mask.{slots}
use Rattle.cells.specs.Cells.{placing}
use Rattle.alike.specs.Ranges.{match}
use Rattle.sift.specs.steps.Alikes.{Gained}
use Rattle.sift.proofs.AlikesLaws.{gained_none, gained_next}
use Rattle.sift.proofs.alikes.Goals as goal

pub loop-v-init : goal.loop-v-init
loop-v-init c =
    let a = c.args in
    rw (c.into_iter-v-iterator.ensures.into_iter_gives, c.members-v-items.ensures) (subst (λ (x : List ℕ). Gained a.by.now a.sc a.sc x) (sym c.requires) (gained_none a.by.now a.sc (omega arith)))

pub loop-v-preserved : goal.loop-v-preserved
loop-v-preserved c =
    let l = c.loop-v in
    let v : ℕ = c.in-Some.v in
    let k = c.in-Some.ensures.steps in
    let by = c.args.by.now in
    let is : ◌≡◌ {A = List ℕ} c.gains.new.eq (placing (match (λ (i : ℕ). eqb (get_or by i 0) (get_or by v 0)) v l.eq) slots l.eq) =
    c.gains.ensures ∙ ap (λ (d : ℕ). placing (match (λ (i : ℕ). eqb (get_or by i 0) (get_or by v 0)) d l.eq) slots l.eq) (mod-eq_of_lt k.slot) in
    rw (is, k.rest) (gained_next by c.args.sc l.v-iterator.left l.eq l.invariant v k.member)

pub shape_of-eq : goal.shape_of-eq
shape_of-eq c = c.loop-v.invariant.size ∙ sym (ap length c.requires ∙ length-replicate {A = ℕ} slots 0)

pub returns : goal.returns
returns c = subst (λ (x : ℕ). Gained c.args.by.now c.args.sc x c.loop-v.eq) c.in-None.ensures.steps.0 c.loop-v.invariant
