-- `puts::put_decimal` meets its contract, as `decimal` goes: the digits of the tenth, and one digit more. The measure is the number.
-- Assumes nothing.
use Rattle.puts.proofs.+put_decimal.Given as goal

abbrev pub decreases-put_decimal : goal.decreases-put_decimal
decreases-put_decimal l = l.n
