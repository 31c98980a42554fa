-- `compose::put_event` meets its contract: the opening, the bytes before the data by the edition, the data. Assumes nothing.
use Rattle.compose.proofs.ComposeLaws.{puts_event, fixed_here}
use native.Mathlib.Omega.{arith}
use Rattle.format.proofs.LayoutLaws.{event_high}
use Rattle.compose.proofs.put_event.Goals as goal

pub put_front-rest-requires : goal.put_front-rest-requires
put_front-rest-requires c = let e = c.event_bytes-n.ensures in let h = event_high c.args.edition in omega arith

pub returns : goal.returns
returns c =
    let a = c.args in
    puts_event a.edition a.d.now a.bytes.now _ _
    (fixed_here a.edition a.d.now c.byte.ensures c.kind_byte.ensures c.byte-2.ensures c.byte-3.ensures c.byte-4.ensures c.byte-5.ensures)
    c.event_bytes-n.ensures c.put_opening-value.ensures c.put_front-rest.ensures c.put_bytes.ensures
