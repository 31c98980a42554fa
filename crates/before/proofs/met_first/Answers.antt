-- `before::met_first` meets its contract: s has the events below d whose first access shares a byte with e's. The measure is what is left.
-- Assumes nothing.
use mathlib.Core.Path.{◌≡◌, sym, ap, ◌∙◌}
use mathlib.Core.Bool.{cond}
use Prim.Native.Nat.{ℕ, ◌%◌}
use native.Mathlib.Nat.{mod-eq_of_lt}
use native.Mathlib.Omega.{arith}
use Rattle.format.specs.Shape.{overlap}
use Rattle.sets.specs.Mask.{slots, insert, remove}
use Rattle.cells.specs.Walk.{picked}
use Rattle.cells.proofs.WalkLaws.{picked_none, picked_more}
use Rattle.tables.specs.Tables.{shape_in}
use Rattle.own.proofs.LoneLaws.{lone_picked}
use Rattle.before.proofs.met_first.Invariants.{firsts}
use Rattle.before.proofs.met_first.Goals as goal

pub loop-d-init : goal.loop-d-init
loop-d-init c = (omega arith, picked_none _)

pub loop-d-preserved : goal.loop-d-preserved
loop-d-preserved c =
    let l = c.loop-d in
    let t = c.args.t.now in
    let few = c.requires.0 in
    let slot : l.d % slots ≡ l.d = mod-eq_of_lt (omega (arith, few, c.loop-d-test.true)) in
    let a = c.shape-a.ensures ∙ ap (shape_in t) (mod-eq_of_lt (let h = c.requires.1 in omega (arith, h))) in
    let b = c.shape.ensures ∙ ap (shape_in t) (mod-eq_of_lt (omega (arith, few, c.loop-d-test.true))) in
    let is = c.overlap.ensures ∙ (λ z. overlap (a z) (b z)) in
    (omega arith, c.take-s.ensures ∙ (λ z. cond (is z) (insert (l.invariant.1 z) (slot z)) (l.invariant.1 z)) ∙ sym (picked_more l.d (firsts t c.args.e)))

pub returns : goal.returns
returns c =
    let l = c.loop-d in
    let t = c.args.t.now in
    let k : l.d ≡ c.args.n = omega arith in
    let slot : c.args.e % slots ≡ c.args.e = mod-eq_of_lt c.requires.1 in
    c.without.ensures ∙ (λ z. remove ((l.invariant.1 ∙ ap (λ (i : ℕ). picked i (firsts t c.args.e)) k) z) (slot z)) ∙ lone_picked t c.requires.2 c.args.e c.requires.1 c.args.n c.requires.0
