-- Decimal numbers (01, the report line's "decimal numbers"). Laws: proofs/DecimalLaws.antt.
--     digit d         the code of a digit below 10
--     digits_in k n    the decimal digits of n, the most significant first, if there are at most k
--     decimal n       the decimal digits of n, without leading zeros; 0 is one digit
-- Assumes nothing.
use Rattle.std.specs.Prelude.{ℕ, zero, suc, ◌+◌, ◌/◌, ◌%◌, true, false, List, [], ◌∷◌, ◌++◌, ltb}

abbrev pub digit : ℕ → ℕ
digit d = 48 + d

unfoldable pub digits_in : ℕ → ℕ → List ℕ
digits_in zero n = []
digits_in (suc k) n =
    elim (ltb n 10) [ true ↦ digit n ∷ [] | false ↦ digits_in k (n / 10) ++ (digit (n % 10) ∷ []) ]

-- n has at most n + 1 digits
unfoldable pub decimal : ℕ → List ℕ
decimal n = digits_in (suc n) n
