-- `lacking::has_row` meets its contract. The invariant: the answer is the answer from row j on. Assumes nothing.
use mathlib.Core.Path.{refl, sym, ap, ◌∙◌}
use Rattle.basis.proofs.LoopLaws.{any_at, any_none, any_found, any_more}
use Rattle.format.specs.Execution.{blank_row}
use Rattle.parse.specs.Parse.{is_row}
use Rattle.entries.specs.Entries.{rows_in}
use Rattle.entries.proofs.EntriesLaws.{rows_count, row_at_lem}
use Rattle.lacking.proofs.has_row.Goals as goal

pub returns-then-is_row : goal.returns-then-is_row
returns-then-is_row c =
    let k = rows_count c.args.s.now c.args.x.head.edition c.args.x.rows_at c.args.x.rows in
    sym (any_at (is_row c.args.e c.args.n) (rows_in c.args.s.now c.args.x) c.args.hint blank_row (rw k c.if-hint-rows.true)
    (ap (is_row c.args.e c.args.n) (row_at_lem c.args.s.now c.args.x.head.edition c.args.x.rows_at c.args.x.rows c.args.hint c.if-hint-rows.true) ∙ sym (rw c.row_no.ensures at c.is_row.ensures) ∙ c.if-is_row.true))

pub loop-j-init : goal.loop-j-init
loop-j-init c = refl

pub returns-then-hit : goal.returns-then-hit
returns-then-hit c =
    let k = rows_count c.args.s.now c.args.x.head.edition c.args.x.rows_at c.args.x.rows in
    any_found (is_row c.args.e c.args.n) (rows_in c.args.s.now c.args.x) c.loop-j.j blank_row c.loop-j.invariant (rw k c.loop-j-test.true)
    (ap (is_row c.args.e c.args.n) (row_at_lem c.args.s.now c.args.x.head.edition c.args.x.rows_at c.args.x.rows c.loop-j.j c.loop-j-test.true) ∙ sym (rw c.row_no-in-loop-j.ensures at c.is_row-hit.ensures) ∙ c.if-hit.true)

pub loop-j-preserved : goal.loop-j-preserved
loop-j-preserved c =
    let k = rows_count c.args.s.now c.args.x.head.edition c.args.x.rows_at c.args.x.rows in
    any_more (is_row c.args.e c.args.n) (rows_in c.args.s.now c.args.x) c.loop-j.j blank_row c.loop-j.invariant (rw k c.loop-j-test.true)
    (ap (is_row c.args.e c.args.n) (row_at_lem c.args.s.now c.args.x.head.edition c.args.x.rows_at c.args.x.rows c.loop-j.j c.loop-j-test.true) ∙ sym (rw c.row_no-in-loop-j.ensures at c.is_row-hit.ensures) ∙ c.if-hit.false)

pub returns : goal.returns
returns c =
    let k = rows_count c.args.s.now c.args.x.head.edition c.args.x.rows_at c.args.x.rows in
    any_none (is_row c.args.e c.args.n) (rows_in c.args.s.now c.args.x) c.loop-j.j c.loop-j.invariant (rw k c.loop-j-test.false)
