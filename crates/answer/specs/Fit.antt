-- Which answers the word can hold, and which of them it tells apart (01, What comes back). Laws: proofs/WordLaws.antt, proofs/ReadLaws.antt.
--     Below m n         the name n is none, or a number below m
--     FourBelow m f     each of four names is
--     Fits m x          x's number is a byte, its place four bytes, its names are below m
-- `Fits 256` holds for every answer of the code, by its types. `Fits 255` says that no name is the byte that stands for none.
-- Assumes nothing.
use Rattle.std.specs.Prelude.{ℕ, ◌<◌, ◌^◌, Option, Some, None}
use Rattle.answer.specs.declared.Four.{Four}
use Rattle.answer.specs.declared.Answer.{Answer}
use Rattle.answer.specs.declared.Answer.TheVariants.{Refused, Broken, Consistent}
use Rattle.answer.specs.NameOf.{names_of, pair_of}

abbrev pub Below : ℕ → Option ℕ → Type 0
Below m (Some k) = k < m
Below m None = Unit

pub record FourBelow (m : ℕ) (f : Four) : Type 0 where
  pub first : Below m f.0
  pub second : Below m f.1
  pub third : Below m f.2
  pub fourth : Below m f.3

abbrev pub Fits : ℕ → Answer → Type 0
Fits m (Refused n p) = (n < 256) × (p < 2 ^ 32)
Fits m (Broken n names) = (n < 256) × FourBelow m (names_of names)
Fits m (Consistent s) = FourBelow m (pair_of s)
