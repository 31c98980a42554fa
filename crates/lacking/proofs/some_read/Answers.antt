-- `lacking::some_read` meets its contract. The invariant: the answer is the answer from the next place on. Assumes nothing.
use Rattle.std.proofs.Common.{refl, sym, ◌∙◌, take}
use Rattle.basis.proofs.LoopLaws.{any_none, any_found, any_more}
use Rattle.format.specs.Event.{reads_some}
use Rattle.format.proofs.EventLaws.{reads_some_one}
use Rattle.entries.proofs.EntriesLaws.{any_events}
use Rattle.lacking.proofs.some_read.Invariants.{reads_here}
use Rattle.lacking.proofs.some_read.Goals as goal

pub loop-p-init : goal.loop-p-init
loop-p-init c = refl

pub returns-then-hit : goal.returns-then-hit
returns-then-hit c =
    any_found (reads_here c.args.s.now c.args.x.head.edition) (take c.count-n.result c.args.at.now) c.loop-p.p-index 0 c.loop-p.invariant c.loop-p-test.true
    (reads_some_one _ _ ∙ simp (← c.shape_at.ensures, ← c.reads-hit.ensures) c.if-hit.true)
    ∙ sym (any_events reads_some c.args.s.now c.args.x c.args.at.now c.count-n.result c.count-n.ensures)

pub loop-p-preserved : goal.loop-p-preserved
loop-p-preserved c =
    any_more (reads_here c.args.s.now c.args.x.head.edition) (take c.count-n.result c.args.at.now) c.loop-p.p-index 0 c.loop-p.invariant c.loop-p-test.true
    (reads_some_one _ _ ∙ simp (← c.shape_at.ensures, ← c.reads-hit.ensures) c.if-hit.false)

pub returns : goal.returns
returns c =
    any_none (reads_here c.args.s.now c.args.x.head.edition) (take c.count-n.result c.args.at.now) c.loop-p.p-index c.loop-p.invariant c.loop-p-test.false
    ∙ sym (any_events reads_some c.args.s.now c.args.x c.args.at.now c.count-n.result c.count-n.ensures)
