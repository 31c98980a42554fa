-- The kinds of answers (01, What comes back).
--     kind_of x    the number of x's kind
-- Assumes nothing.
use Rattle.std.specs.Prelude.{ℕ}
use Rattle.answer.specs.declared.Answer.{Answer}
use Rattle.answer.specs.declared.Answer.TheVariants.{Refused, Broken, Consistent}

-- 01: "An answer is one of three kinds, each with its own numbers: refused (number, place), broken (number, four names),
-- consistent (orderly, or the unsettled pair)." and "kind (1, 2, 3)"
abbrev pub kind_of : Answer → ℕ
kind_of (Refused n p) = 1
kind_of (Broken n names) = 2
kind_of (Consistent s) = 3
