-- `before::fill` meets its contract, call by call: both ways of asking about accesses tell the same. Assumes nothing.
use mathlib.Core.Path.{◌≡◌, ap, ◌∙◌, subst}
use mathlib.Core.List.{List}
use Prim.Native.Nat.{ℕ, ◌≤◌, min}
use native.Mathlib.Omega.{arith}
use lib.ListN.{length, replicate}
use Rattle.sets.specs.Mask.{slots}
use Rattle.cells.specs.Cells.{placing}
use Rattle.tables.specs.Tables.{row_room, pair_room}
use Rattle.own.specs.Own.{later_of, earlier_of}
use Rattle.before.specs.Before.{row_steps_in, ClosedSteps}
use Rattle.before.specs.steps.Linked.{inits_in, Linking}
use Rattle.before.proofs.StartLaws.{linked_from, linked_own, linked_steps}
use borrow.Author.Rules.{rules}
use Rattle.before.proofs.fill.Goals.{then-lone, else-lone}
use Rattle.before.proofs.fill.Goals as goal

pub returns : goal.returns
returns c =
    let t = c.args.t.now in
    let q = c.args.q.now in
    let p = c.args.p.now in
    let l = c.args.succ.now in
    let n : ℕ = c.least-n.result in
    let few : n ≤ slots = let z = c.least-n.ensures in omega arith in
    let all : min n slots ≡ n = omega arith in
    let size : length l ≡ slots = search rules in
    let k0 = linked_from t n few l size _ _ (c.laters.ensures.0 ∙ ap (λ (x : ℕ). placing (later_of t x) x l) all) (c.laters.ensures.1 ∙ ap (λ (x : ℕ). placing (earlier_of t x) x (replicate slots 0)) all) in
    let seen : Linking n (λ (x : List ℕ). row_steps_in t q (min c.args.rows row_room) (inits_in t n n x)) c.laters.new.later c.laters.new.earlier c.if-lone.succ c.if-lone.cols =
    elim c.if-lone.branch [
      | then-lone w ↦ rw (w.succ-is, w.cols-is) w.add_seen.ensures
      | else-lone w ↦ rw (w.succ-is, w.cols-is) w.add_seen-else-lone.ensures
    ] in
    let k1 = linked_own t n few l size (row_steps_in t q (min c.args.rows row_room)) (seen.adds _ k0) in
    let k2 = c.add_pairs.ensures.adds _ k1 in
    subst (λ (x : ℕ). ClosedSteps t x q (min c.args.rows row_room) p (min c.args.pairs pair_room) l c.add_pairs.new.succ c.args.pred.now c.merge.new.masks) c.least-n.ensures
    (linked_steps t n few q (min c.args.rows row_room) p (min c.args.pairs pair_room) l _ _ c.args.pred.now _ k2 (search rules) c.merge.ensures)
