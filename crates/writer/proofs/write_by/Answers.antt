-- `writer::write_by` meets its contract: the sheet is too long, or the answer is that for its bytes. Assumes nothing.
use mathlib.Core.Path.{sym}
use native.Mathlib.Omega.{arith}
use lib.Seq.{length-take-le}
use Rattle.writer.proofs.WrittenLaws.{wrote_long, wrote_same, composed_long, composed_whole}
use Rattle.writer.proofs.write_by.Goals as goal

pub returns-then-n-gt-MAX_BYTES : goal.returns-then-n-gt-MAX_BYTES
returns-then-n-gt-MAX_BYTES c = wrote_long _ c.args.out.now (composed_long c.compose-n.ensures c.requires c.if-n-gt-MAX_BYTES.true)

pub slice_bounds-tell-end-2 : goal.slice_bounds-tell-end-2
slice_bounds-tell-end-2 c = sym (length-take-le c.compose-n.result c.compose-n.new.out (let e = c.compose-n.ensures.size in let k = c.requires in omega arith))

pub tell-requires : goal.tell-requires
tell-requires c = let e = length-take-le c.compose-n.result c.compose-n.new.out (let e = c.compose-n.ensures.size in let k = c.requires in omega arith) in omega arith

pub returns : goal.returns
returns c = wrote_same (composed_whole c.compose-n.ensures c.requires c.if-n-gt-MAX_BYTES.false) c.tell.ensures
