-- `writer::tell` meets its contract: refused by the reader, whole and too long for the buffer, or put. Assumes nothing.
use native.Mathlib.Omega.{arith}
use Rattle.parse.proofs.RefusalLaws.{refusal_place}
use Rattle.puts.proofs.PutLaws.{puts_most}
use Rattle.writer.proofs.WrittenLaws.{wrote_refused, wrote_short, wrote_whole}
use Rattle.writer.proofs.tell.Goals as goal

pub index_of-requires : goal.index_of-requires
index_of-requires c = let h = refusal_place c.args.s.now _ _ c.in-Err.ensures.says in let k = c.requires in omega arith

pub returns-then-out-s : goal.returns-then-out-s
returns-then-out-s c = let a = c.args in wrote_short a.s.now a.out.now _ c.in-Ok.ensures.says c.if-out-s.true

pub overflow_cast-result : goal.overflow_cast-result
overflow_cast-result c = let m = puts_most c.put_bytes-end.ensures in let k = c.requires in omega arith

pub returns-in-Err : goal.returns-in-Err
returns-in-Err c = let a = c.args in wrote_refused a.s.now a.out.now _ _ _ (rw (← c.number-n.ensures) at c.in-Err.ensures.says) c.index_of.ensures

pub returns-else-out-s : goal.returns-else-out-s
returns-else-out-s c = let a = c.args in wrote_whole a.s.now a.out.now _ _ _ c.in-Ok.ensures.says c.if-out-s.false c.put_bytes-end.ensures
