-- `lacking::lacks_from` meets its contract. The invariant: the answer is the answer from byte i on. Assumes nothing.
use mathlib.Core.Path.{refl, sym, ap, ◌∙◌}
use Rattle.basis.specs.Test.{from, non}
use Rattle.basis.proofs.ListLaws.{from_length, from_at}
use Rattle.basis.proofs.LoopLaws.{any_none, any_found, any_more}
use Rattle.lacking.proofs.lacks_from.Invariants.{bare}
use Rattle.lacking.proofs.lacks_from.Goals as goal

pub loop-i-init : goal.loop-i-init
loop-i-init c = refl

pub returns-then-not-found : goal.returns-then-not-found
unfolding non
returns-then-not-found c =
    any_found (bare c.args.s.now c.args.x c.args.e) (from c.args.start c.args.width) c.loop-i.i 0 c.loop-i.invariant (rw (from_length c.args.start c.args.width) c.loop-i-test.true)
    (ap (bare c.args.s.now c.args.x c.args.e) (from_at c.args.start c.args.width c.loop-i.i 0 c.loop-i-test.true) ∙ sym (ap non c.has_row-found.ensures) ∙ ap non c.if-not-found.true)

pub loop-i-preserved : goal.loop-i-preserved
unfolding non
loop-i-preserved c =
    any_more (bare c.args.s.now c.args.x c.args.e) (from c.args.start c.args.width) c.loop-i.i 0 c.loop-i.invariant (rw (from_length c.args.start c.args.width) c.loop-i-test.true)
    (ap (bare c.args.s.now c.args.x c.args.e) (from_at c.args.start c.args.width c.loop-i.i 0 c.loop-i-test.true) ∙ sym (ap non c.has_row-found.ensures) ∙ ap non c.if-not-found.false)

pub returns : goal.returns
returns c = any_none (bare c.args.s.now c.args.x c.args.e) (from c.args.start c.args.width) c.loop-i.i c.loop-i.invariant (rw (from_length c.args.start c.args.width) c.loop-i-test.false)
