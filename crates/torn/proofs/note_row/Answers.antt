-- `torn::note_row` meets its contract: one mask is written, with the writer or as it was. Assumes nothing.
use Rattle.std.proofs.Common.{arith}
use Rattle.torn.proofs.TornLaws.{slot_bound, row_set}
use Rattle.torn.proofs.note_row.Goals as goal

pub offset_bounds-masks-k : goal.offset_bounds-masks-k
offset_bounds-masks-k c =
    let z = slot_bound _ _ _ _ c.slot_at-k.ensures in omega arith

pub bounds-masks-k : goal.bounds-masks-k
bounds-masks-k c =
    let z = slot_bound _ _ _ _ c.slot_at-k.ensures in omega arith

pub offset_bounds-masks-k-2 : goal.offset_bounds-masks-k-2
offset_bounds-masks-k-2 c =
    let z = slot_bound _ _ _ _ c.slot_at-k.ensures in omega arith

pub bounds-masks-k-2 : goal.bounds-masks-k-2
bounds-masks-k-2 c =
    let z = slot_bound _ _ _ _ c.slot_at-k.ensures in omega arith

pub returns : goal.returns
returns c = row_set c.args.t.now c.args.r c.args.masks.now c.slot_at-k.result c.join.result c.untorn.result c.slot_at-k.ensures c.untorn.ensures c.join.ensures
