-- `compose::put_events` meets its contract. The invariant is the contract at the place reached: the first i events are put, and the data of the next begins at `first`, or there is none left. Assumes nothing.
use mathlib.Core.Path.{refl}
use Prim.Native.Nat.{◌*◌}
use native.Mathlib.Omega.{arith}
use Rattle.encode.specs.Encode.{event_value}
use Rattle.encode.specs.Lent.{description_bytes, description_no}
use Rattle.compose.proofs.ComposeLaws.{puts_entry, puts_description, rest_none, rest_more, end_within, puts_run_none, puts_run_all}
use Rattle.compose.proofs.put_events.Goals as goal

pub loop-i-init : goal.loop-i-init
loop-i-init c = let a = c.args in (omega arith, rest_none a.events.now a.bytes.now, puts_run_none 2 (event_value a.edition) (description_no a.events.now a.bytes.now) a.at a.out.now)

pub overflow_add-d : goal.overflow_add-d
overflow_add-d c = omega arith

pub slice_bounds-d-count : goal.slice_bounds-d-count
slice_bounds-d-count c = omega arith

pub slice_bounds-d-start : goal.slice_bounds-d-start
slice_bounds-d-start c = omega arith

pub slice_bounds-d-end : goal.slice_bounds-d-end
slice_bounds-d-end c = omega arith

pub end_of-end-requires : goal.end_of-end-requires
end_of-end-requires c = c.loop-i.invariant.0

pub slice_bounds-put_event-count : goal.slice_bounds-put_event-count
slice_bounds-put_event-count c = let l = c.loop-i in let w = end_within c.args.bytes.now l.first c.data_length.result l.invariant.0 in let e = c.end_of-end.ensures in omega arith

pub slice_bounds-put_event-start : goal.slice_bounds-put_event-start
slice_bounds-put_event-start c = let l = c.loop-i in let w = end_within c.args.bytes.now l.first c.data_length.result l.invariant.0 in let e = c.end_of-end.ensures in omega arith

pub slice_bounds-put_event-end : goal.slice_bounds-put_event-end
slice_bounds-put_event-end c = let l = c.loop-i in let w = end_within c.args.bytes.now l.first c.data_length.result l.invariant.0 in let e = c.end_of-end.ensures in omega arith

pub loop-i-preserved : goal.loop-i-preserved
loop-i-preserved c = let a = c.args in let l = c.loop-i in let w = end_within a.bytes.now l.first c.data_length.result l.invariant.0 in let e = c.end_of-end.ensures in (omega arith, rest_more a.events.now a.bytes.now (l.i * description_bytes) l.i l.first refl l.invariant.0 l.invariant.1 c.data_length.result c.end_of-end.result c.data_length.ensures c.end_of-end.ensures, puts_entry 2 (event_value a.edition) (description_no a.events.now a.bytes.now) l.i l.invariant.2 (puts_description a.events.now a.bytes.now (l.i * description_bytes) l.i l.first refl l.invariant.0 l.invariant.1 c.data_length.result c.end_of-end.result c.data_length.ensures c.end_of-end.ensures a.edition c.put_event-next.ensures))

pub returns : goal.returns
returns c = let a = c.args in let l = c.loop-i in puts_run_all 2 (event_value a.edition) (description_no a.events.now a.bytes.now) l.i a.n (omega arith) l.invariant.2
