-- `before::add_inits` meets its contract: the first e events have been looked at. The measure is what is left. Assumes nothing.
use mathlib.Core.Path.{◌≡◌, sym, subst, ◌∙◌}
use Prim.Native.Nat.{ℕ}
use native.Mathlib.Omega.{arith}
use Rattle.before.specs.steps.Linked.{init_at, inits_in, Linking}
use Rattle.before.proofs.LinkedLaws.{linking_none, linking_more, inits_none, inits_more}
use Rattle.before.proofs.add_inits.Goals as goal

pub loop-e-init : goal.loop-e-init
loop-e-init g c = (omega arith, linking_none (inits_in (g.A.Accesses.table c.args.of.now) c.args.n 0) c.requires.1 c.requires.2 (inits_none (g.A.Accesses.table c.args.of.now) c.args.n))

pub add_init-requires : goal.add_init-requires
add_init-requires g c = (c.requires.0, c.loop-e-test.true, c.loop-e.invariant.1.size, c.loop-e.invariant.1.width)

pub loop-e-preserved : goal.loop-e-preserved
loop-e-preserved g c =
    let l = c.loop-e in
    let t = (g.A.Accesses.table c.args.of.now) in
    let n = c.args.n in
    (omega arith, linking_more (inits_in t n l.e) (init_at t n l.e) (inits_in t n _) (inits_more t n l.e) l.invariant.1 c.add_init.ensures)

pub shape_of-succ : goal.shape_of-succ
shape_of-succ g c = c.loop-e.invariant.1.size ∙ sym c.requires.1

pub shape_of-cols : goal.shape_of-cols
shape_of-cols g c = c.loop-e.invariant.1.width ∙ sym c.requires.2

pub returns : goal.returns
returns g c =
    let l = c.loop-e in
    let k : l.e ≡ c.args.n = omega arith in
    subst (λ (x : ℕ). Linking c.args.n (inits_in (g.A.Accesses.table c.args.of.now) c.args.n x) c.args.succ.now c.args.cols.now l.succ l.cols) k l.invariant.1
