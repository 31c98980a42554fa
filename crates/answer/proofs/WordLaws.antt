-- The laws of specs/Word.antt: the parts of a word are the answer's.
--     four_below        four names below 256 make less than 2^32
--     fits_more         an answer with no name 255 fits
--     packed_below      a word is below 2^43
--     packed_kind, packed_number, packed_rest    the word's parts are the answer's
-- Assumes nothing.
use mathlib.Core.Path.{◌≡◌}
use Prim.Native.Nat.{ℕ, ◌^◌, ◌/◌, ◌%◌, ◌<◌}
use native.Mathlib.Omega.{arith}
use Rattle.std.proofs.Common.{Option, Some, None}
use Rattle.answer.specs.declared.Four.{Four}
use Rattle.answer.specs.declared.Settled.{Settled}
use Rattle.answer.specs.declared.Settled.TheVariants.{Orderly, Unsettled}
use Rattle.answer.specs.declared.Answer.{Answer}
use Rattle.answer.specs.declared.Answer.TheVariants.{Refused, Broken, Consistent}
use Rattle.answer.specs.Kind.{kind_of}
use Rattle.answer.specs.Number.{settled_number, number_of}
use Rattle.answer.specs.NameOf.{four, names_of, pair_of}
use Rattle.answer.specs.Word.{byte_of, four_bytes, rest_of, word, packed}
use Rattle.answer.specs.Fit.{Below, FourBelow, Fits}

-- ---- names

pub byte_below : (n : Option ℕ) → Below 256 n → byte_of n < 256
byte_below (Some k) h = h
byte_below None h = omega arith

below_more : (n : Option ℕ) → Below 255 n → Below 256 n
below_more (Some k) h = omega arith
below_more None h = h

-- ---- four names

pub four_below : (f : Four) → FourBelow 256 f → four_bytes f < 2 ^ 32
four_below f h =
    omega (arith, byte_below f.0 h.first, byte_below f.1 h.second, byte_below f.2 h.third, byte_below f.3 h.fourth)

pub four_more : (f : Four) → FourBelow 255 f → FourBelow 256 f
four_more f h =
    record { first = below_more f.0 h.first; second = below_more f.1 h.second; third = below_more f.2 h.third; fourth = below_more f.3 h.fourth }

pub four_same : {a b c d p q r s : Option ℕ} → a ≡ p → b ≡ q → c ≡ r → d ≡ s → four a b c d ≡ four p q r s
four_same x y z w = cc

-- what fits without the byte for none fits
pub fits_more : (x : Answer) → Fits 255 x → Fits 256 x
fits_more (Refused n p) h = h
fits_more (Broken n names) h = (h.0, four_more (names_of names) h.1)
fits_more (Consistent s) h = four_more (pair_of s) h

-- ---- the word

pub settled_below : (s : Settled) → settled_number s < 256
settled_below Orderly = omega arith
settled_below (Unsettled e d) = omega arith

pub number_below : (x : Answer) → Fits 256 x → number_of x < 256
number_below (Refused n p) h = h.0
number_below (Broken n names) h = h.0
number_below (Consistent s) h = settled_below s

pub rest_below : (x : Answer) → Fits 256 x → rest_of x < 2 ^ 32
rest_below (Refused n p) h = h.1
rest_below (Broken n names) h = four_below (names_of names) h.1
rest_below (Consistent s) h = four_below (pair_of s) h

kind_below : (x : Answer) → kind_of x < 8
kind_below (Refused n p) = omega arith
kind_below (Broken n names) = omega arith
kind_below (Consistent s) = omega arith

word_below : (k n r : ℕ) → k < 8 → n < 256 → r < 2 ^ 32 → word k n r < 2 ^ 43
word_below k n r a b c = omega arith

word_kind : (k n r : ℕ) → n < 256 → r < 2 ^ 32 → word k n r / 2 ^ 40 ≡ k
word_kind k n r b c = omega arith

word_number : (k n r : ℕ) → n < 256 → r < 2 ^ 32 → word k n r / 2 ^ 32 % 2 ^ 8 ≡ n
word_number k n r b c = omega arith

word_rest : (k n r : ℕ) → r < 2 ^ 32 → word k n r % 2 ^ 32 ≡ r
word_rest k n r c = omega arith

pub packed_below : (x : Answer) → Fits 256 x → packed x < 2 ^ 43
packed_below x h = word_below _ _ _ (kind_below x) (number_below x h) (rest_below x h)

pub packed_kind : (x : Answer) → Fits 256 x → packed x / 2 ^ 40 ≡ kind_of x
packed_kind x h = word_kind _ _ _ (number_below x h) (rest_below x h)

pub packed_number : (x : Answer) → Fits 256 x → packed x / 2 ^ 32 % 2 ^ 8 ≡ number_of x
packed_number x h = word_number _ _ _ (number_below x h) (rest_below x h)

pub packed_rest : (x : Answer) → Fits 256 x → packed x % 2 ^ 32 ≡ rest_of x
packed_rest x h = word_rest _ _ _ (rest_below x h)
