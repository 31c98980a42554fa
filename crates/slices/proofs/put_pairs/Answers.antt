-- `slices::put_pairs` meets its contract. The invariant: the first j pairs are put. Assumes nothing.
use Rattle.std.proofs.Common.{◌≡◌, arith}
use Rattle.puts.proofs.PutLaws.{puts_none, puts_then}
use Rattle.slices.proofs.SlicedLaws.{pairs_none, pairs_more}
use Rattle.slices.proofs.put_pairs.Goals as goal

pub loop-j-init : goal.loop-j-init
loop-j-init c = rw (← (pairs_none c.args.s.now c.args.x.pairs_at)) (puts_none 0 c.args.out.now)

pub loop-j-preserved : goal.loop-j-preserved
loop-j-preserved c = rw (pairs_more c.args.s.now c.args.x.pairs_at c.loop-j.j) (puts_then c.loop-j.invariant (simp c.pair_no-p.ensures at c.put_bytes-next.ensures))

pub returns : goal.returns
returns c = let e : c.loop-j.j ≡ c.args.x.pairs = omega arith in rw e at c.loop-j.invariant
