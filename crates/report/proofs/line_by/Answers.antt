-- `report::line_by` meets its contract. The test for room decides whether the line fits (`room_true`, `room_false`); where it does, the head
-- that was made apart, the events and the newline are put one after the other, which is the line (`lined_parts`). Assumes nothing.
use mathlib.Core.Path.{sym, ap, ◌∙◌}
use Prim.Native.Nat.{◌≤◌}
use native.Mathlib.Omega.{arith}
use lib.ListN.{length}
use Rattle.report.specs.Line.{line_of}
use Rattle.report.proofs.LinedLaws.{within_put, lined_parts, lined_written, lined_short, room_true, room_false}
use Rattle.report.proofs.line_by.Goals as goal

pub overflow_add-n : goal.overflow_add-n
overflow_add-n c = let h = (within_put c.requires c.put_head-n.ensures).after in let n = c.put_head-n.ensures.near in omega (arith, h, n)

pub shape_of-text-then-not-room : goal.shape_of-text-then-not-room
shape_of-text-then-not-room c = c.put_head-n.ensures.put.size

pub returns-then-not-room : goal.returns-then-not-room
returns-then-not-room c =
    let head = within_put c.requires c.put_head-n.ensures in
    lined_short c.args.x c.args.order.now c.args.out.now (room_false c.args.x c.args.order.now c.told_of-events.result.now c.put_head-n.result (length c.args.out.now) head.after c.told_of-events.ensures (sym c.fits-room.ensures ∙ c.if-not-room.true))

pub slice_bounds-put_bytes-end : goal.slice_bounds-put_bytes-end
slice_bounds-put_bytes-end c =
    let head = within_put c.requires c.put_head-n.ensures in
    let a = head.after in let b = head.size in let n = c.put_head-n.ensures.near in let p = c.requires in omega (arith, a, b, n, p)

pub slice_bounds-put_bytes-end-2 : goal.slice_bounds-put_bytes-end-2
slice_bounds-put_bytes-end-2 c =
    let head = within_put c.requires c.put_head-n.ensures in let n = c.put_head-n.ensures.near in omega (arith, n, ap length head.written)

pub returns : goal.returns
returns c =
    let head = within_put c.requires c.put_head-n.ensures in
    let room : length (line_of c.args.x c.args.order.now) ≤ length c.args.out.now = room_true c.args.x c.args.order.now c.told_of-events.result.now c.put_head-n.result (length c.args.out.now) head.after c.told_of-events.ensures (sym c.fits-room.ensures ∙ c.if-not-room.false) in
    lined_written c.args.x c.args.order.now room (lined_parts c.args.x c.args.order.now room (rw head.written at c.put_bytes-a.ensures) (rw c.told_of-events.ensures at c.put_events-b.ensures) c.put_bytes.ensures)
