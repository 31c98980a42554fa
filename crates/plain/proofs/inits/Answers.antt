-- `plain::inits` meets its contract. The invariant: the whole answer is the answer from this place on, behind a head or an event, the table holds the events so far, and
-- none of them lies at `high` or behind. The measure is what is left of the sheet. Assumes nothing.
use mathlib.Core.Path.{refl, sym, ◌∙◌}
use mathlib.Core.Bool.{true}
use native.Mathlib.Omega.{arith}
use Rattle.content.proofs.ContentLaws.{within_holds, within_elim}
use Rattle.spot.proofs.TabledLaws.{behind_first}
use Rattle.plain.proofs.LinedLaws.{lined_of, clear_start, clear_next}
use Rattle.plain.proofs.GrowingLaws.{growing_start, growing_reach, growing_few, growing_next, growing_end, ended, failed}
use Rattle.plain.proofs.inits.Goals.{then-loop-p-test+else-plain_first, else-loop-p-test}
use Rattle.plain.proofs.inits.Goals as goal

pub loop-p-init : goal.loop-p-init
loop-p-init c = (growing_start c.args.s.now c.args.spot c.args.spot.x.events c.args.at.now c.args.t.now c.requires (rw c.if-last-ne1.false (within_holds 1 2 1 (omega arith) (omega arith))) (behind_first c.args.s.now c.args.spot.p c.args.spot.last c.args.spot.x c.args.at.now c.requires.turn.between (let w = c.if-last-ne1.false in omega arith)), clear_start c.args.s.now c.args.spot.x.head.edition c.args.spot.x.events c.args.at.now 0 (c.requires.turn.between.no_events (let w = c.if-last-ne1.false in omega arith)))

pub plain_first-requires : goal.plain_first-requires
plain_first-requires c = rw c.behind.ensures (lined_of c.args.s.now c.args.spot.x.head c.loop-p.n c.loop-p.p c.loop-p.last c.loop-p.at c.loop-p.invariant.0.turn.between c.loop-p.high c.loop-p.invariant.1)

pub overflow_cast-next : goal.overflow_cast-next
overflow_cast-next c = let r = growing_reach c.args.s.now c.args.spot.x.head c.args.spot.x.events c.args.spot.x.events c.args.spot.p c.args.at.now c.args.t.now c.loop-p.n c.loop-p.n c.loop-p.k c.loop-p.last c.loop-p.p c.loop-p.at c.loop-p.t c.loop-p.invariant.0 true (rw c.behind.ensures at (c.plain_first.ensures.clean c.if-plain_first.true)) in let e = c.next_at-next.ensures in omega arith

pub take_event-k-requires : goal.take_event-k-requires
take_event-k-requires c = let f = growing_few c.args.s.now c.args.spot.x.head c.args.spot.x.events c.args.spot.x.events c.args.spot.p c.args.at.now c.args.t.now c.loop-p.n c.loop-p.n c.loop-p.k c.loop-p.last c.loop-p.p c.loop-p.at c.loop-p.t c.loop-p.invariant.0 true (rw c.behind.ensures at (c.plain_first.ensures.clean c.if-plain_first.true)) in (f.0, f.1, f.2, f.3, c.shape_here-a.ensures)

pub loop-p-preserved : goal.loop-p-preserved
loop-p-preserved c =
    let f = growing_few c.args.s.now c.args.spot.x.head c.args.spot.x.events c.args.spot.x.events c.args.spot.p c.args.at.now c.args.t.now c.loop-p.n c.loop-p.n c.loop-p.k c.loop-p.last c.loop-p.p c.loop-p.at c.loop-p.t c.loop-p.invariant.0 true (rw c.behind.ensures at (c.plain_first.ensures.clean c.if-plain_first.true)) in (
      rw c.next_at-next.ensures (growing_next c.args.s.now c.args.spot.x.head c.args.spot.x.events c.args.spot.x.events c.args.spot.p c.args.at.now c.args.t.now c.loop-p.n c.loop-p.n c.loop-p.k c.loop-p.last c.loop-p.p c.loop-p.at c.loop-p.t c.loop-p.invariant.0 true (rw c.behind.ensures at (c.plain_first.ensures.clean c.if-plain_first.true)) 0 refl c.loop-p-test.true c.take_event-k.result _ _ c.take_event-k.ensures),
      rw c.take_event-k.ensures.place (clear_next c.args.s.now c.args.spot.x.head.edition c.loop-p.n c.loop-p.p c.loop-p.at c.loop-p.high c.end_of-high.result c.loop-p.invariant.1 (omega (arith, f.1, f.2)) c.end_of-high.ensures.0 c.end_of-high.ensures.1),
    )

pub returns : goal.returns
returns c = let w = within_elim 1 2 c.loop-p.last c.loop-p.invariant.0.early in rw c.behind-2.ensures (
  (growing_end c.args.s.now c.args.spot.x.head c.args.spot.x.events c.args.spot.x.events c.args.spot.p c.args.at.now c.args.t.now c.loop-p.n c.loop-p.n c.loop-p.k c.loop-p.last c.loop-p.p c.loop-p.at c.loop-p.t c.loop-p.invariant.0 c.args.spot (behind_first c.args.s.now c.args.spot.p c.args.spot.last c.args.spot.x c.args.at.now c.requires.turn.between (let w = c.if-last-ne1.false in omega arith))),
  record {
    low = λ h. w.1;
    first = λ e. absurd (omega (arith, w.0, e));
    no_init = λ e. elim c.loop-p-test.branch [
      | then-loop-p-test+else-plain_first w ↦ failed _ _ (sym (rw w.behind.ensures at w.plain_first.ensures).is ∙ w.if-plain_first.false)
      | else-loop-p-test w ↦ ended c.args.s.now c.loop-p.p _ w.loop-p-test.false
    ];
  },
)
