-- `line_head::put_broken` meets its contract: the pieces are put one after the other. Assumes nothing.
use Rattle.answer.specs.NameOf.{names_of}
use Rattle.puts.proofs.PutLaws.{puts_then}
use Rattle.line_head.proofs.HeadLaws.{broken_near}
use Rattle.line_head.proofs.put_broken.Goals as goal

pub returns : goal.returns
returns c =
    let names = rw c.names_of.ensures at c.put_names.ensures in
    record { put = puts_then (puts_then c.put_bytes-a.ensures c.put_number-b.ensures.put) names.put; near = broken_near c.args.n (names_of c.args.names) c.put_number-b.ensures.near names.near }
