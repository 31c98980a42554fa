-- `puts::put_spaced` meets its contract: a space, and the digits right after it. Assumes nothing.
use Rattle.puts.proofs.PutLaws.{puts_then}
use Rattle.puts.proofs.put_spaced.Goals as goal

pub returns : goal.returns
returns c = puts_then c.put-next.ensures c.put_decimal.ensures
