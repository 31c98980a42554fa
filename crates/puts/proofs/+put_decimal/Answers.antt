-- `puts::put_decimal` meets its contract, as `decimal` goes: the digits of the tenth, and one digit more. Assumes nothing.
use Rattle.puts.proofs.DecimalLaws.{decimal_less, decimal_more}
use Rattle.puts.proofs.PutLaws.{puts_then}
use Rattle.puts.proofs.+put_decimal.Goals as goal

pub returns-then-n-lt10 : goal.returns-then-n-lt10
returns-then-n-lt10 t c = rw (decimal_less c.args.n c.if-n-lt10.true) c.put.ensures

pub returns : goal.returns
returns t c = rw (decimal_more c.args.n c.if-n-lt10.false) (puts_then c.put_decimal-next.ensures c.put-2.ensures)
