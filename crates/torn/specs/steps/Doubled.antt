-- Masks with two members. Beside private steps, `others` cites this file. Laws: proofs/DoubledLaws.antt. Assumes nothing.
--     Twice m        m has two members
--     Doubled s      some mask of s has
use Rattle.std.specs.Prelude.{ℕ, ◌<◌, List, slice_index}
use Rattle.sets.specs.Mask.{Has}
use Rattle.tables.specs.Tables.{accesses}
use Rattle.torn.specs.steps.Noticed.{Among}

pub record Twice (m : ℕ) : Type 0 where
  pub first : ℕ
  pub second : ℕ
  pub rising : first < second
  pub has_first : Has m first
  pub has_second : Has m second

abbrev pub Doubled : List ℕ → Type 0
Doubled s = Among accesses (λ (k : ℕ). Twice (slice_index s k))
