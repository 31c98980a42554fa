-- Numbers with a space before each (01, the report line). Laws: proofs/NumbersLaws.antt.
--     numbered n      a space and the decimal number n
--     events_text l    each number of l
-- Assumes nothing.
use Rattle.std.specs.Prelude.{ℕ, List, [], ◌∷◌, ◌++◌}
use Rattle.puts.specs.Text.{text}
use Rattle.puts.specs.Decimal.{decimal}

-- 01: "decimal numbers", "single spaces"
abbrev pub numbered : ℕ → List ℕ
numbered n = text " " ++ decimal n

abbrev pub events_text : List ℕ → List ℕ
events_text [] = []
events_text (e ∷ l) = numbered e ++ events_text l
