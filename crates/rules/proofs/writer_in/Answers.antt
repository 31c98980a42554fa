-- `rules::writer_in` meets its contract: of what is left nothing is known yet. Assumes nothing.
use Rattle.std.proofs.Common.{ℕ, sym, ap, ◌∙◌, mod-eq_of_lt}
use Rattle.tables.specs.Tables.{writes_in}
use Rattle.cells.proofs.FirstLaws.{left_start, left_hit, left_next, left_end}
use Rattle.rules.proofs.writer_in.Goals as goal

pub loop-v-init : goal.loop-v-init
loop-v-init c = rw (c.into_iter-v-iterator.ensures.into_iter_gives, c.members-v-items.ensures) (left_start _ c.args.m c.ranges.m.fits)

pub returns-then-writes_byte : goal.returns-then-writes_byte
returns-then-writes_byte c =
    let k = c.in-Some.ensures.steps in
    let e = c.writes_byte.ensures ∙ ap (λ (v : ℕ). writes_in c.args.t.now v c.args.a) (mod-eq_of_lt k.slot) in
    left_hit c.loop-v.invariant c.in-Some.v c.next.new.self.left k (sym e ∙ c.if-writes_byte.true)

pub loop-v-preserved : goal.loop-v-preserved
loop-v-preserved c =
    let k = c.in-Some.ensures.steps in
    let e = c.writes_byte.ensures ∙ ap (λ (v : ℕ). writes_in c.args.t.now v c.args.a) (mod-eq_of_lt k.slot) in
    left_next c.loop-v.invariant c.in-Some.v c.next.new.self.left k (sym e ∙ c.if-writes_byte.false)

pub returns : goal.returns
returns c = left_end c.loop-v.invariant c.in-None.ensures.steps.0
