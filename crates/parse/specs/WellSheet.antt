-- A well-formed sheet, said without the reader (01, "The sheet", and 02 §1 and §4); and that the reader accepts just those. Proved: proofs/WellSheetLaws.antt.
--     WellSheet s x     s is a well-formed sheet, and x is what it describes
--     Exactly           `parse` accepts the well-formed sheets, each as what it describes, and no others
-- Assumes nothing.
use Rattle.std.specs.Prelude.{◌≡◌, ◌↔◌, List, ℕ, ◌≤◌, length}
use Rattle.format.specs.Limits.{max_bytes}
use Rattle.format.specs.Execution.{Execution}
use Rattle.parse.specs.Parse.{whole, parse}
use Rattle.parse.specs.Promise.{WellFormed}
use Rattle.parse.specs.Described.{described}
use Rattle.parse.specs.Framed.{Framed}

pub record WellSheet (s : List ℕ) (x : Execution) : Type 0 where
  -- "At most 4,096 bytes."
  pub short : length s ≤ max_bytes
  -- fields cut nowhere, with 01's tags and lengths
  pub framed : Framed s
  -- that describe x, with nothing tested
  pub describes : described s ≡ x
  -- of which every bullet of 01, "The sheet", and 02 §1 and §4 hold
  pub well_formed : WellFormed x

abbrev pub Exactly : Type 0
Exactly = (s : List ℕ) (x : Execution) → (parse s ≡ whole x) ↔ WellSheet s x
