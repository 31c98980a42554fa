-- The code's answer as the definition's (crates/parse/specs/Parse.antt, `lowest_lacking`), whose option is the mathematics' own.
--     lack_of     the event that it names, if it names one
-- Assumes nothing.
use Rattle.std.proofs.Math.Option.{none, some}
use Rattle.std.specs.Prelude.{ℕ, Option, Some, None}

abbrev pub lack_of : Option ℕ → Rattle.std.proofs.Math.Option.Option ℕ
lack_of None = none
lack_of (Some e) = some e
