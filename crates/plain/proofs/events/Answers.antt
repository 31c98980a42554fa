-- `plain::events` meets its contract. The invariant: the whole answer is the answer from this place on, behind a head or an event, and the table holds the events so far. The
-- measure is what is left of the sheet. Assumes nothing.
use mathlib.Core.Path.{refl, sym, ◌∙◌}
use mathlib.Core.Bool.{false}
use native.Mathlib.Omega.{arith}
use Rattle.basis.proofs.BoolLaws.{and_fails}
use Rattle.content.proofs.ContentLaws.{within_elim}
use Rattle.spot.proofs.TabledLaws.{behind_of}
use Rattle.plain.proofs.GrowingLaws.{growing_start, growing_reach, growing_few, growing_next, growing_end, ended, failed, inits_kept}
use Rattle.plain.proofs.events.Goals.{then-loop-p-test+then-plain_event+else-tear_clean, then-loop-p-test+else-plain_event, else-loop-p-test}
use Rattle.plain.proofs.events.Goals as goal

pub loop-p-init : goal.loop-p-init
loop-p-init c = (growing_start c.args.s.now c.args.spot c.args.spot.x.inits c.args.at.now c.args.t.now c.requires (sym c.within-here.ensures ∙ c.if-not-here.false) (behind_of c.args.s.now c.args.spot.p c.args.spot.last c.args.spot.x c.args.at.now c.requires.turn.between (let w = within_elim 1 2 c.args.spot.last (sym c.within-here.ensures ∙ c.if-not-here.false) in omega (arith, w.1))), λ e. (e, refl, refl, refl))

pub overflow_cast-next : goal.overflow_cast-next
overflow_cast-next c = let r = growing_reach c.args.s.now c.args.spot.x.head c.args.spot.x.inits c.args.spot.x.events c.args.spot.p c.args.at.now c.args.t.now c.args.spot.x.inits c.loop-p.n c.loop-p.k c.loop-p.last c.loop-p.p c.loop-p.at c.loop-p.t c.loop-p.invariant.0 false ((rw c.behind.ensures at c.plain_event.ensures).clean c.if-plain_event.true (sym c.tear_clean.ensures ∙ c.if-tear_clean.true) c.loop-p.at) in let e = c.next_at-next.ensures in omega arith

pub take_event-k-requires : goal.take_event-k-requires
take_event-k-requires c = let f = growing_few c.args.s.now c.args.spot.x.head c.args.spot.x.inits c.args.spot.x.events c.args.spot.p c.args.at.now c.args.t.now c.args.spot.x.inits c.loop-p.n c.loop-p.k c.loop-p.last c.loop-p.p c.loop-p.at c.loop-p.t c.loop-p.invariant.0 false ((rw c.behind.ensures at c.plain_event.ensures).clean c.if-plain_event.true (sym c.tear_clean.ensures ∙ c.if-tear_clean.true) c.loop-p.at) in (f.0, f.1, f.2, f.3, c.shape_plain-a.ensures)

pub loop-p-preserved : goal.loop-p-preserved
loop-p-preserved c = (rw c.next_at-next.ensures (growing_next c.args.s.now c.args.spot.x.head c.args.spot.x.inits c.args.spot.x.events c.args.spot.p c.args.at.now c.args.t.now c.args.spot.x.inits c.loop-p.n c.loop-p.k c.loop-p.last c.loop-p.p c.loop-p.at c.loop-p.t c.loop-p.invariant.0 false ((rw c.behind.ensures at c.plain_event.ensures).clean c.if-plain_event.true (sym c.tear_clean.ensures ∙ c.if-tear_clean.true) c.loop-p.at) 1 refl c.loop-p-test.true c.take_event-k.result _ _ c.take_event-k.ensures), λ e. absurd (omega arith))

pub returns : goal.returns
returns c = let w = within_elim 1 2 c.loop-p.last c.loop-p.invariant.0.early in rw c.behind-2.ensures (
  (growing_end c.args.s.now c.args.spot.x.head c.args.spot.x.inits c.args.spot.x.events c.args.spot.p c.args.at.now c.args.t.now c.args.spot.x.inits c.loop-p.n c.loop-p.k c.loop-p.last c.loop-p.p c.loop-p.at c.loop-p.t c.loop-p.invariant.0 c.args.spot (behind_of c.args.s.now c.args.spot.p c.args.spot.last c.args.spot.x c.args.at.now c.requires.turn.between (let w = within_elim 1 2 c.args.spot.last (sym c.within-here.ensures ∙ c.if-not-here.false) in omega (arith, w.1)))),
  record {
    low = λ h. w.1;
    first = λ e. absurd (omega (arith, w.0, e));
    kept = λ e. let k = c.loop-p.invariant.1 e in (k.0, inits_kept c.args.s.now c.args.spot.x c.args.spot.x.head c.args.spot.x.inits c.args.spot.x.events c.args.spot.p c.loop-p.n c.loop-p.p c.args.at.now c.loop-p.at (behind_of c.args.s.now c.args.spot.p c.args.spot.last c.args.spot.x c.args.at.now c.requires.turn.between (let w = within_elim 1 2 c.args.spot.last (sym c.within-here.ensures ∙ c.if-not-here.false) in omega (arith, w.1))) k.1 k.2 k.3);
    no_other = λ _. elim c.loop-p-test.branch [
      | then-loop-p-test+then-plain_event+else-tear_clean w ↦ failed _ _ (failed _ _ (sym w.tear_clean.ensures ∙ w.if-tear_clean.false))
      | then-loop-p-test+else-plain_event w ↦ failed _ _ (and_fails _ _ (sym (rw w.behind.ensures at w.plain_event.ensures).is ∙ w.if-plain_event.false))
      | else-loop-p-test w ↦ ended c.args.s.now c.loop-p.p _ w.loop-p-test.false
    ];
  },
)
