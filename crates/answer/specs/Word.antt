-- The 64-bit answer (01, What comes back). Laws: proofs/WordLaws.antt.
--     byte_of n          a name as a byte
--     four_bytes f       four names as one number
--     rest_of x          what stands below the kind and the number
--     word k n rest     a kind, a number and the rest as one number
--     packed x          the 64-bit answer
-- Assumes nothing.
use Rattle.std.specs.Prelude.{ℕ, ◌+◌, ◌*◌, ◌^◌, Option, Some, None}
use Rattle.answer.specs.declared.Four.{Four}
use Rattle.answer.specs.declared.Answer.{Answer}
use Rattle.answer.specs.declared.Answer.TheVariants.{Refused, Broken, Consistent}
use Rattle.answer.specs.Kind.{kind_of}
use Rattle.answer.specs.Number.{number_of}
use Rattle.answer.specs.NameOf.{names_of, pair_of}

-- 01: "255 for none"
abbrev pub byte_of : Option ℕ → ℕ
byte_of (Some k) = k
byte_of None = 255

-- 01: "the four names as bytes, the first most significant"
abbrev pub four_bytes : Four → ℕ
four_bytes f = byte_of f.0 * 2 ^ 24 + byte_of f.1 * 2 ^ 16 + byte_of f.2 * 2 ^ 8 + byte_of f.3

-- 01: "the place, or the four names"
abbrev pub rest_of : Answer → ℕ
rest_of (Refused n p) = p
rest_of (Broken n names) = four_bytes (names_of names)
rest_of (Consistent s) = four_bytes (pair_of s)

-- 01: "kind (1, 2, 3) times 2^40, plus number times 2^32, plus the place, or the four names"
abbrev pub word : ℕ → ℕ → ℕ → ℕ
word kind number rest = kind * 2 ^ 40 + number * 2 ^ 32 + rest

abbrev pub packed : Answer → ℕ
packed x = word (kind_of x) (number_of x) (rest_of x)
