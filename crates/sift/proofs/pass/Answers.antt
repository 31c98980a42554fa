-- `sift::pass` meets its contract: of the first j rows none is amiss, and they are listed. The measure is what is left. Assumes nothing.
use borrow.Author.Rules.{rules}
use mathlib.Core.Path.{◌≡◌, refl, sym, ap, ◌∙◌, subst}
use mathlib.Core.Bool.{true}
use mathlib.Core.Logic.{inl}
use Prim.Native.Nat.{ℕ, suc, ◌%◌, min}
use native.Mathlib.Numerals.{add-one}
use native.Mathlib.Nat.{mod-eq_of_lt}
use native.Mathlib.Omega.{arith}
use Rattle.sets.specs.Mask.{slots}
use Rattle.format.specs.declared.Row.{Row}
use Rattle.tables.specs.Tables.{row_room, row_in}
use Rattle.tables.proofs.TablesLaws.{writer_slot, row_at_lem}
use Rattle.torn.specs.steps.Noticed.{Marks, Among}
use Rattle.basis.proofs.BoolLaws.{not_both_ways}
use Rattle.bars.specs.Bars.{mask_in}
use Rattle.bars.specs.Listed.{Listed}
use Rattle.bars.specs.steps.Covered.{covered_in}
use Rattle.bars.proofs.ListedLaws.{lists_mem, listed_none, same_both, listed_next}
use Rattle.sift.specs.Clean.{last_in, run_in, AmissAt}
use Rattle.sift.proofs.CleanLaws.{last_more, run_more, amiss_at, never_more, row_covered}
use Rattle.sift.proofs.pass.Goals as goal

pub loop-j-init : goal.loop-j-init
unfolding last_in run_in
loop-j-init c =
    let a = c.args in
    let z = c.least-m.ensures in
    (omega arith, omega arith, λ f. (let z = f.inside in omega arith), refl, refl, λ eqs g. (listed_none a.t.now eqs a.succ.now a.pred.now a.q.now a.k _ _ _, λ l. record { one = inl refl }), c.requires.0, c.requires.1, c.requires.2)

pub returns-then-found-ne0 : goal.returns-then-found-ne0
returns-then-found-ne0 c =
    let a = c.args in
    let l = c.loop-j in
    let t = a.t.now in
    let q = a.q.now in
    let r = c.row-r.result in
    let z = c.least-m.ensures in
    let is : r ≡ row_in q l.j = row_at_lem q l.j (let z = l.invariant.1 in omega (arith, z, c.loop-j-test.true)) r c.row-r.ensures in
    let runs : c.run-wholes.result ≡ run_in t q (suc l.j) = run_more t q l.j r is l.last_reader l.wholes c.run-wholes.result l.invariant.3 l.invariant.4 c.run-wholes.ensures in
    let marks : Marks c.amiss-found.result (AmissAt t a.succ.now a.pred.now a.far a.bytes.now q l.j) = amiss_at t a.succ.now a.pred.now a.far a.bytes.now q l.j r is c.amiss-found.result l.last_reader c.run-wholes.result l.invariant.3 runs c.amiss-found.ensures in
    record {
      is = record { holds = λ h. absurd (not_both_ways h refl); fails = λ h f. f (record { at = l.j; inside = omega (arith, c.loop-j-test.true); holds = marks.some c.if-found-ne0.true }) };
      listed = λ n h. absurd (cc);
    }

pub loop-j-preserved : goal.loop-j-preserved
loop-j-preserved c =
    let a = c.args in
    let l = c.loop-j in
    let t = a.t.now in
    let bytes = a.bytes.now in
    let succ = a.succ.now in
    let pred = a.pred.now in
    let q = a.q.now in
    let r = c.row-r.result in
    let x = c.run-wholes.result in
    let y = c.amiss-found.result in
    let b = c.barred-b.result in
    let is : r ≡ row_in q l.j = row_at_lem q l.j (let z = l.invariant.1 in omega (arith, z, c.loop-j-test.true)) r c.row-r.ensures in
    let w : r.writer % slots ≡ (row_in q l.j).writer = ap (λ (z : Row). z.writer % slots) is ∙ mod-eq_of_lt (writer_slot q l.j) in
    let runs : x ≡ run_in t q (suc l.j) = run_more t q l.j r is l.last_reader l.wholes x l.invariant.3 l.invariant.4 c.run-wholes.ensures in
    let marks : Marks y (AmissAt t succ pred a.far bytes q l.j) = amiss_at t succ pred a.far bytes q l.j r is y l.last_reader x l.invariant.3 runs c.amiss-found.ensures in (
      omega arith,
      l.invariant.1,
      never_more (AmissAt t succ pred a.far bytes q) l.j l.invariant.2 (marks.none c.if-found-ne0.false),
      last_more t q l.j r is,
      runs ∙ ap (run_in t q) (sym (add-one l.j)),
      λ eqs agree.
          let g = l.invariant.5 eqs agree in
          let cov : covered_in t r ≡ true = row_covered t succ pred a.far bytes r l.last_reader x (c.amiss-found.ensures.none c.if-found-ne0.false) in
          let m = lists_mem t eqs succ pred q a.k (row_in q l.j) (mask_in t eqs succ pred r) (r.writer % slots) b (ap (mask_in t eqs succ pred) is) w (c.barred-b.ensures cov eqs agree) in
          listed_next t eqs succ pred q a.k g.0 g.1 l.invariant.6 l.invariant.7 l.invariant.8 r is b m _ (same_both _ _ _ _ _ _) c.enter-n.ensures,
      search rules,
      search rules,
      search rules,
    )

pub returns : goal.returns
returns c =
    let a = c.args in
    let l = c.loop-j in
    let z = c.least-m.ensures in
    let e : l.j ≡ min a.rows row_room = omega arith in
    record {
      is = record { holds = λ h. subst (λ (i : ℕ). Among i (AmissAt a.t.now a.succ.now a.pred.now a.far a.bytes.now a.q.now) → ⊥) e l.invariant.2; fails = λ h. absurd (not_both_ways refl h) };
      listed = λ n h eqs agree. let k : l.n ≡ n = cc in
          subst (λ (x : ℕ). Listed a.t.now eqs a.succ.now a.pred.now a.q.now a.k (min a.rows row_room) x l.between l.readers l.writers) k
          (subst (λ (i : ℕ). Listed a.t.now eqs a.succ.now a.pred.now a.q.now a.k i l.n l.between l.readers l.writers) e (l.invariant.5 eqs agree).0);
    }
