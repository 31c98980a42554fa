-- A table of sets in lent bytes (01, "one bit for each set of placed events"): set x has bit x % 8 of byte x / 8.
-- Laws: proofs/TableLaws.antt. Assumes nothing.
--     is_marked t x     whether the table t marks the set x; false beyond its end
--     marking t x      t with x marked; t beyond its end
--     bytes_for n       the bytes that the sets of n events take
--     cleared n t      t with its first n bytes zero
use Rattle.std.specs.Prelude.{Bool, List, ◌++◌, ℕ, ◌/◌, ◌%◌, ◌^◌, max, min, length, get_or, set, drop, replicate}
use Rattle.sets.specs.Mask.{mem, insert}

unfoldable pub is_marked : List ℕ → ℕ → Bool
is_marked t x = mem (get_or t (x / 8) 0) (x % 8)

unfoldable pub marking : List ℕ → ℕ → List ℕ
marking t x = set t (x / 8) (insert (get_or t (x / 8) 0) (x % 8))

-- 01: "the scratch needs the larger of 1 and 2^n / 8 bytes"
abbrev pub bytes_for : ℕ → ℕ
bytes_for n = max 1 (2 ^ n / 8)

unfoldable pub cleared : ℕ → List ℕ → List ℕ
cleared n t = replicate (min n (length t)) 0 ++ drop n t
