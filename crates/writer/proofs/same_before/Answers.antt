-- `writer::same_before` meets its contract. The invariant: the fields before q are counted. The measure is what is left before p. Assumes nothing.
use mathlib.Core.Path.{refl}
use native.Mathlib.Omega.{arith}
use lib.Dec.{eqb}
use Rattle.writer.proofs.CountedLaws.{one_most, counted_none, counted_turn, counted_all}
use Rattle.writer.proofs.same_before.Goals as goal

pub loop-q-init : goal.loop-q-init
loop-q-init c = counted_none c.args.s.now c.args.p

pub overflow_add-i : goal.overflow_add-i
overflow_add-i c = let e = c.one_if_same-i.ensures in let w = c.loop-q.invariant.few in let m = one_most (eqb c.byte.result c.byte-tag.result) in omega arith

pub loop-q-preserved : goal.loop-q-preserved
loop-q-preserved c = let a = c.args in counted_turn a.s.now a.p c.loop-q.i c.loop-q.q c.one_if_same-i.result _ c.byte.result c.byte-tag.result c.length_at.result c.loop-q.invariant c.loop-q-test.true c.byte.ensures c.byte-tag.ensures c.one_if_same-i.ensures c.length_at.ensures refl

pub returns : goal.returns
returns c = let a = c.args in counted_all a.s.now a.p c.loop-q.i c.loop-q.q c.loop-q.invariant c.loop-q-test.false
