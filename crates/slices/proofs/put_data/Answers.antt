-- `slices::put_data` meets its contract. The invariant: the data of the events so far is put. Assumes nothing.
use Rattle.std.proofs.Common.{take}
use Rattle.puts.proofs.PutLaws.{puts_none, puts_then}
use Rattle.slices.specs.Sliced.{data_bytes_at}
use Rattle.slices.proofs.SlicedLaws.{flat_none, flat_more, flat_end, flat_all}
use Rattle.slices.proofs.put_data.Goals as goal

pub loop-p-init : goal.loop-p-init
loop-p-init c = rw (← (flat_none (data_bytes_at c.args.s.now c.args.x.head.edition))) (puts_none 0 c.args.out.now)

pub loop-p-preserved : goal.loop-p-preserved
loop-p-preserved c =
    let a = c.args in
    rw (flat_more (data_bytes_at a.s.now a.x.head.edition) (take c.count-n.result a.at.now) c.loop-p.p-index c.loop-p-test.true) (puts_then c.loop-p.invariant (rw c.data_at.ensures at c.put_bytes-next.ensures))

pub returns : goal.returns
returns c =
    let a = c.args in
    let f = data_bytes_at a.s.now a.x.head.edition in
    rw (flat_end f (take c.count-n.result a.at.now) c.loop-p.p-index c.loop-p-test.false, flat_all f a.at.now a.x.events c.count-n.result c.count-n.ensures) at c.loop-p.invariant
