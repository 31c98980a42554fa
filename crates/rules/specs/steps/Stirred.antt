-- What one pass over the rows notices, without a jump: whether 21 is broken. No public contract cites this file.
-- Laws: proofs/StirredLaws.antt. Assumes nothing.
--     Unlike q n                  21: one of the first n rows has two bytes that differ
use Rattle.std.specs.Prelude.{◌≡◌, true, List, ℕ}
use Rattle.torn.specs.steps.Noticed.{Among}
use Rattle.rules.specs.Rules.{unlike_in}

abbrev pub Unlike : List ℕ → ℕ → Type 0
Unlike q n = Among n (λ (j : ℕ). unlike_in q j ≡ true)
