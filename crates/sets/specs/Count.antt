-- How many numbers pass a test: the size of a set, the marks of a table. Laws: proofs/CountLaws.antt. Assumes nothing.
--     count f n    how many numbers below n pass f
use Rattle.std.specs.Prelude.{Bool, ℕ, zero, suc, ◌+◌}
use Rattle.sets.specs.Mask.{pick}

unfoldable pub count : (ℕ → Bool) → ℕ → ℕ
count f zero = 0
count f (suc n) = pick (f n) 1 0 + count f n
