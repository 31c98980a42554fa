-- The number of an answer within its kind (01, What comes back).
--     settled_number s    0 orderly, 1 unsettled
--     number_of x         the refusal's or the rule's number, or settled_number
-- Assumes nothing.
use Rattle.std.specs.Prelude.{ℕ}
use Rattle.answer.specs.declared.Settled.{Settled}
use Rattle.answer.specs.declared.Settled.TheVariants.{Orderly, Unsettled}
use Rattle.answer.specs.declared.Answer.{Answer}
use Rattle.answer.specs.declared.Answer.TheVariants.{Refused, Broken, Consistent}

-- 01: "For kind 3 the number is 0 orderly, 1 unsettled"
abbrev pub settled_number : Settled → ℕ
settled_number Orderly = 0
settled_number (Unsettled e d) = 1

-- 01: "refused (number, place), broken (number, four names)"
abbrev pub number_of : Answer → ℕ
number_of (Refused n p) = n
number_of (Broken n names) = n
number_of (Consistent s) = settled_number s
