-- `before::add_rows` meets its contract: the first j rows have been looked at. The measure is what is left. Assumes nothing.
use mathlib.Core.Path.{◌≡◌, ap, sym, subst, ◌∙◌}
use Prim.Native.Nat.{ℕ, min}
use native.Mathlib.Nat.{mod-eq_of_lt}
use native.Mathlib.Omega.{arith}
use Rattle.tables.specs.Tables.{row_room, row_in}
use Rattle.before.specs.Before.{sync_gains, row_steps_in}
use Rattle.before.specs.steps.Linked.{Linking}
use Rattle.before.proofs.BeforeLaws.{rows_none, rows_more}
use Rattle.before.proofs.LinkedLaws.{linking_none, linking_more}
use Rattle.before.proofs.add_rows.Goals as goal

pub loop-j-init : goal.loop-j-init
loop-j-init g c = (omega arith, omega arith, linking_none (row_steps_in (g.A.Accesses.table c.args.of.now) c.args.q.now 0) c.requires.1 c.requires.2 (rows_none (g.A.Accesses.table c.args.of.now) c.args.q.now))

pub add_row-requires : goal.add_row-requires
add_row-requires g c = (c.requires.0, c.loop-j.invariant.2.size, c.loop-j.invariant.2.width)

pub loop-j-preserved : goal.loop-j-preserved
loop-j-preserved g c =
    let l = c.loop-j in
    let t = (g.A.Accesses.table c.args.of.now) in
    let q = c.args.q.now in
    let is : c.row.result ≡ row_in q l.j = c.row.ensures ∙ ap (row_in q) (mod-eq_of_lt (let z = l.invariant.1 in omega (arith, z, c.loop-j-test.true))) in
    (omega arith, l.invariant.1, linking_more (row_steps_in t q l.j) (sync_gains t c.row.result) (row_steps_in t q _) (λ x. ap (λ r. sync_gains t r (row_steps_in t q l.j x)) is ∙ rows_more t q x l.j) l.invariant.2 c.add_row.ensures)

pub shape_of-succ : goal.shape_of-succ
shape_of-succ g c = c.loop-j.invariant.2.size ∙ sym c.requires.1

pub shape_of-cols : goal.shape_of-cols
shape_of-cols g c = c.loop-j.invariant.2.width ∙ sym c.requires.2

pub returns : goal.returns
returns g c =
    let l = c.loop-j in
    let z = c.least-m.ensures in
    let k : l.j ≡ min c.args.rows row_room = omega arith in
    subst (λ (x : ℕ). Linking c.args.n (row_steps_in (g.A.Accesses.table c.args.of.now) c.args.q.now x) c.args.succ.now c.args.cols.now l.succ l.cols) k l.invariant.2
