-- What the reader hands over where it fills the tables as well: the counts and places of a whole sheet, and its events and rows in the tables of
-- accesses and rows (crates/lay/specs/Lay.antt). `Counts` and `Refusal` are the source's own structs: beside a refusal there are no counts.
--     Filled s r at t t' q q'     r is what was read of the sheet s, at the places, and the tables t and q have become t' and q'
-- Assumes nothing.
use Rattle.std.specs.Prelude.{◌≡◌, List, ℕ, min, Result, Ok, Err}
use Rattle.sheet.specs.declared.Refusal.{Refusal}
use Rattle.faults.specs.Number.{number_of}
use Rattle.sets.specs.Mask.{slots}
use Rattle.parse.specs.Parse.{refused, parse}
use Rattle.entries.specs.declared.Counts.{Counts}
use Rattle.tables.specs.Tables.{row_room}
use Rattle.lay.specs.Lay.{events_put, rows_put}
use Rattle.sheet.specs.Handed.{HandedWhole}

-- of the places and the tables nothing is said: they are lent
pub record FilledRefusal (s : List ℕ) (n p : ℕ) : Type 0 where
  pub says : parse s ≡ refused n p

pub record FilledWhole (s : List ℕ) (x : Counts) (at t t' q q' : List ℕ) : Type 0 where
  pub handed : HandedWhole s x at
  pub events : t' ≡ events_put s x.head.edition at (min x.events slots) t
  pub rows : q' ≡ rows_put s x at t' (min x.rows row_room) q

abbrev pub Filled : List ℕ → Result Counts Refusal → List ℕ → List ℕ → List ℕ → List ℕ → List ℕ → Type 0
Filled s (Err r) at t t' q q' = FilledRefusal s (number_of r.fault) r.place
Filled s (Ok x) at t t' q q' = FilledWhole s x at t t' q q'
