-- `rules::differ` meets its contract: of the first j rows it is known whether one has two bytes that differ. The measure is what is left.
-- Assumes nothing.
use mathlib.Core.Path.{◌≡◌, subst}
use mathlib.Core.Bool.{true}
use Prim.Native.Nat.{ℕ, min}
use native.Mathlib.Omega.{arith}
use Rattle.tables.specs.Tables.{row_room}
use Rattle.torn.specs.steps.Noticed.{Marks}
use Rattle.torn.proofs.NoticedLaws.{marked_none, marked_more, marked_tells}
use Rattle.rules.specs.Rules.{unlike_in}
use Rattle.rules.specs.steps.Stirred.{Unlike}
use Rattle.rules.proofs.StirredLaws.{differ_marks}
use Rattle.rules.proofs.differ.Goals as goal

pub loop-j-init : goal.loop-j-init
loop-j-init c = (omega arith, omega arith, marked_none _)

pub loop-j-preserved : goal.loop-j-preserved
loop-j-preserved c =
    let l = c.loop-j in
    let q = c.args.q.now in
    (omega arith, l.invariant.1, marked_more (λ (i : ℕ). unlike_in q i ≡ true) l.j l.c _ l.invariant.2 (differ_marks q l.j c.seen.result c.wrote.result (omega arith) c.seen.ensures c.wrote.ensures))

pub returns : goal.returns
returns c =
    let l = c.loop-j in
    let a = c.args in
    let z = c.least-m.ensures in
    let e : l.j ≡ min a.n row_room = omega arith in
    marked_tells l.c (subst (λ (i : ℕ). Marks l.c (Unlike a.q.now i)) e l.invariant.2)
