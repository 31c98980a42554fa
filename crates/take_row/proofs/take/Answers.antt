-- `take_row::take` meets its contract: the tests in their order, and the row is put as `row_taken` says. Assumes nothing.
use mathlib.Core.Path.{◌≡◌, refl, sym, ◌∙◌}
use Prim.Native.Nat.{◌+◌, ◌-◌}
use native.Mathlib.Omega.{arith}
use Rattle.basis.proofs.BoolLaws.{and_parts}
use Rattle.format.specs.Field.{rest_at}
use Rattle.format.specs.Layout.{row_bytes}
use Rattle.format.proofs.LayoutLaws.{row_front}
use Rattle.take_row.specs.Taken.{row_here}
use Rattle.take_row.proofs.TakenLaws.{test_short, test_unknown, test_told, put_told, taken_left, taken_put, joined_from}
use Rattle.take_row.proofs.take.Goals as goal

pub returns-then-s-end : goal.returns-then-s-end
returns-then-s-end c =
    let a = c.args in
    let l = c.if-s-end.true in
    taken_left a.s.now a.p a.x a.at.now a.t.now a.q.now _ refl (test_short a.s.now a.p a.x a.t.now _ (omega arith))

pub returns-then-not-known : goal.returns-then-not-known
unfolding row_bytes
returns-then-not-known c =
    let a = c.args in
    let l = c.if-s-end.false in
    let e : c.row_of-r.result ≡ row_here a.s.now a.p a.x = c.row_of-r.ensures ∙ row_front a.x.head.edition (rest_at a.s.now a.p) (a.p + 3 + 3 - (a.p + 3)) (omega arith) in
    taken_left a.s.now a.p a.x a.at.now a.t.now a.q.now _ e (test_unknown a.s.now a.p a.x a.t.now _ (omega arith) (sym c.known-known.ensures ∙ c.if-not-known.true))

pub returns-then-not-plain : goal.returns-then-not-plain
unfolding row_bytes
returns-then-not-plain c =
    let a = c.args in
    let l = c.if-s-end.false in
    let e : c.row_of-r.result ≡ row_here a.s.now a.p a.x = c.row_of-r.ensures ∙ row_front a.x.head.edition (rest_at a.s.now a.p) (a.p + 3 + 3 - (a.p + 3)) (omega arith) in
    taken_left a.s.now a.p a.x a.at.now a.t.now a.q.now _ e (test_told a.s.now a.p a.x a.t.now _ (omega arith) (sym c.known-known.ensures ∙ c.if-not-known.false) _ _ _ _ c.shape-a.ensures c.shape-b.ensures c.joins.ensures c.rises.ensures ∙ c.if-not-plain.true)

pub seen_at-seen-requires : goal.seen_at-seen-requires
seen_at-seen-requires c = (joined_from _ _ _ (sym c.joins.ensures ∙ (and_parts c.joins.result c.rises.result c.if-not-plain.false).0)).0

pub wrote_at-wrote-requires : goal.wrote_at-wrote-requires
wrote_at-wrote-requires c = (joined_from _ _ _ (sym c.joins.ensures ∙ (and_parts c.joins.result c.rises.result c.if-not-plain.false).0)).1

pub returns : goal.returns
unfolding row_bytes
returns c =
    let a = c.args in
    let l = c.if-s-end.false in
    let e : c.row_of-r.result ≡ row_here a.s.now a.p a.x = c.row_of-r.ensures ∙ row_front a.x.head.edition (rest_at a.s.now a.p) (a.p + 3 + 3 - (a.p + 3)) (omega arith) in
    taken_put a.s.now a.p a.x a.at.now a.t.now a.q.now _ e (test_told a.s.now a.p a.x a.t.now _ (omega arith) (sym c.known-known.ensures ∙ c.if-not-known.false) _ _ _ _ c.shape-a.ensures c.shape-b.ensures c.joins.ensures c.rises.ensures ∙ c.if-not-plain.false) _
    ((rw (c.seen_at-seen.ensures, c.wrote_at-wrote.ensures) at c.put_row.ensures) ∙ put_told a.s.now a.x a.at.now a.t.now a.q.now _ _ _ _ _ c.shape-a.ensures c.shape-b.ensures c.place_of.ensures c.place_of-2.ensures)
