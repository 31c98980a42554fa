-- `slices::data_count` meets its contract. The invariant: the sum is that of the events so far. Assumes nothing.
use Rattle.std.proofs.Common.{◌≡◌, ◌≤◌, take, get_or, arith, sym, ap, ◌∙◌}
use Rattle.std.proofs.lemmas.List.{length-take}
use Rattle.format.specs.Layout.{data_bytes}
use Rattle.slices.specs.Sliced.{size_at}
use Rattle.slices.proofs.SlicedLaws.{sum_none, sum_more, sum_end, sum_all, data_few}
use Rattle.slices.proofs.data_count.Goals as goal

pub loop-p-init : goal.loop-p-init
loop-p-init c = (sym (sum_none (size_at c.args.s.now c.args.x.head.edition)), omega arith)

pub loop-p-preserved : goal.loop-p-preserved
loop-p-preserved c =
    let a = c.args in
    let size = size_at a.s.now a.x.head.edition in
    let places = take c.count-n.result a.at.now in
    let m = sum_more size places c.loop-p.p-index c.loop-p-test.true in
    let q = c.loop-p.invariant.0 in
    let d : c.data_bytes.result ≡ size (get_or places c.loop-p.p-index 0) = c.data_bytes.ensures ∙ ap data_bytes c.shape_at.ensures in
    let f : c.data_bytes.result ≤ 510 = rw c.data_bytes.ensures (data_few c.shape_at.result (omega arith)) in
    let g = c.loop-p.invariant.1 in
    (omega arith, omega arith)

pub returns : goal.returns
returns c =
    let a = c.args in
    let size = size_at a.s.now a.x.head.edition in
    let places = take c.count-n.result a.at.now in
    let n = c.count-n.ensures in
    let l = length-take c.count-n.result a.at.now in
    let i = c.loop-p.auto.p-index-end in
    let g = c.loop-p.invariant.1 in
    record {
      is = c.loop-p.invariant.0 ∙ sum_end size places c.loop-p.p-index c.loop-p-test.false ∙ sum_all size a.at.now a.x.events c.count-n.result n;
      few = omega arith;
    }
