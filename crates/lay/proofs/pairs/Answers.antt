-- `lay::pairs` meets its contract: the first j pairs are there. The measure is what is left. Assumes nothing.
use mathlib.Core.Path.{◌≡◌, ap, ◌∙◌}
use Prim.Native.Nat.{ℕ, ◌-◌, min}
use native.Mathlib.Omega.{arith}
use lib.ListN.{length}
use Rattle.tables.specs.Tables.{pair_room}
use Rattle.lay.specs.Lay.{pair_put, pairs_put}
use Rattle.lay.proofs.LayLaws.{pairs_none, pairs_more, pairs_length}
use Rattle.lay.proofs.pairs.Goals as goal

pub loop-j-init : goal.loop-j-init
loop-j-init c = (omega arith, omega arith, pairs_none c.args.s.now c.args.x _)

pub loop-j-preserved : goal.loop-j-preserved
loop-j-preserved c =
    let l = c.loop-j in
    let a = c.args in
    let s = a.s.now in
    (omega arith, l.invariant.1, c.pair.ensures ∙ ap (pair_put s a.x l.j) l.invariant.2 ∙ pairs_more s a.x a.p.now l.j)

pub shape_of-p : goal.shape_of-p
shape_of-p c = let a = c.args in ap length c.loop-j.invariant.2 ∙ pairs_length a.s.now a.x a.p.now c.loop-j.j

pub returns : goal.returns
returns c =
    let l = c.loop-j in
    let a = c.args in
    let z = c.least-m.ensures in
    let k : l.j ≡ min a.x.pairs pair_room = omega arith in
    l.invariant.2 ∙ ap (λ (i : ℕ). pairs_put a.s.now a.x i a.p.now) k
