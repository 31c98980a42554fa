-- `plain::rows` meets its contract. The invariant: the whole answer is the answer from this place on, behind an event or a row, and the table holds the rows so far. The
-- measure is what is left of the sheet. Assumes nothing.
use mathlib.Core.Path.{◌≡◌, refl, sym, ◌∙◌}
use native.Mathlib.Omega.{arith}
use Rattle.spot.proofs.TabledLaws.{rows_of}
use Rattle.plain.proofs.GrowingLaws.{rowing_start, rowing_same, rowing_took, rowing_left, rowing_few, rowing_next, ended, failed, others_kept}
use Rattle.plain.proofs.rows.Goals.{then-loop-p-test+else-take, else-loop-p-test}
use Rattle.plain.proofs.rows.Goals as goal

pub loop-p-init : goal.loop-p-init
loop-p-init c = (rowing_start c.args.s.now c.args.spot c.args.at.now c.args.t.now c.args.q.now c.requires.0 c.requires.1 c.if-last-ne2.false, λ e. (refl, refl), (let w = c.if-last-ne2.false in omega arith))

pub overflow_add-n : goal.overflow_add-n
overflow_add-n c = let f = rowing_few c.args.s.now c.args.spot.x c.args.at.now c.args.t.now c.args.spot.t c.args.spot.x.rows c.args.spot.p c.args.q.now c.loop-p.n c.loop-p.last c.loop-p.p c.loop-p.q c.loop-p.invariant.0 _ (rowing_took c.args.s.now c.args.spot.x c.args.at.now c.args.t.now c.args.spot.t c.args.spot.x.rows c.args.spot.p c.args.q.now c.loop-p.n c.loop-p.last c.loop-p.p c.loop-p.q c.loop-p.invariant.0 _ _ (rw c.with_rows.ensures at c.take.ensures) c.if-take.true) in omega arith

pub loop-p-preserved : goal.loop-p-preserved
loop-p-preserved c = (rowing_next c.args.s.now c.args.spot.x c.args.at.now c.args.t.now c.args.spot.t c.args.spot.x.rows c.args.spot.p c.args.q.now c.loop-p.n c.loop-p.last c.loop-p.p c.loop-p.q c.loop-p.invariant.0 _ (rowing_took c.args.s.now c.args.spot.x c.args.at.now c.args.t.now c.args.spot.t c.args.spot.x.rows c.args.spot.p c.args.q.now c.loop-p.n c.loop-p.last c.loop-p.p c.loop-p.q c.loop-p.invariant.0 _ _ (rw c.with_rows.ensures at c.take.ensures) c.if-take.true) c.loop-p-test.true, λ e. absurd (omega arith), omega arith)

pub returns : goal.returns
returns c =
    let same : c.loop-p-test.q ≡ c.loop-p.q = elim c.loop-p-test.branch [
      | then-loop-p-test+else-take w ↦ w.q-is ∙ rowing_same c.args.s.now c.args.spot.x c.args.at.now c.args.t.now c.args.spot.t c.args.spot.x.rows c.args.spot.p c.args.q.now c.loop-p.n c.loop-p.last c.loop-p.p c.loop-p.q c.loop-p.invariant.0 _ _ (rw w.with_rows.ensures at w.take.ensures) w.if-take.false
      | else-loop-p-test w ↦ w.q-is
    ] in
    let m = rows_of c.args.s.now c.args.spot.p c.args.spot.last c.args.spot.x c.args.at.now c.requires.0.turn.between (let w = c.if-last-ne2.false in omega arith) in
    let v = rowing_left c.args.s.now c.args.spot.x c.args.at.now c.args.t.now c.args.spot.t c.args.spot.x.rows c.args.spot.p c.args.q.now c.loop-p.n c.loop-p.last c.loop-p.p c.loop-p.q c.loop-p.invariant.0 _ same c.args.spot m in
    rw c.with_rows-2.ensures (
      v.0,
      v.1,
      record {
        early = λ e. absurd (let w = c.loop-p.invariant.2 in omega (arith, e, w));
        kept = λ e. let k = c.loop-p.invariant.1 e in (c.if-last-ne2.false, others_kept c.args.s.now c.args.spot.x c.loop-p.n c.loop-p.p c.args.spot.p m k.0 k.1);
        no_row = λ l h. elim c.loop-p-test.branch [
          | then-loop-p-test+else-take w ↦ failed _ _ (sym (rw w.with_rows.ensures at w.take.ensures).is ∙ w.if-take.false)
          | else-loop-p-test w ↦ ended c.args.s.now c.loop-p.p _ w.loop-p-test.false
        ];
      },
    )
