-- What the reader hands over (01: "The reader of sheets is a separate crate below the judge; the judge sees only what the reader promises.").
-- It is small: counts, and places in the sheet (crates/entries/specs/Entries.antt says what they describe). `Whole` and `Refusal` are the source's own structs:
-- beside a refusal there are no counts and no places.
-- Laws: proofs/AgreementLaws.antt.
--     Laid s x at                   each place is where 01 puts the field
--     Handed s o                    o is the reader's outcome for the sheet s
-- Assumes nothing.
use Rattle.std.specs.Prelude.{◌≡◌, List, ℕ, suc, ◌+◌, ◌-◌, ◌<◌, ◌≤◌, length, get_or, drop, replicate, Result, Ok, Err}
use Rattle.sheet.specs.declared.Refusal.{Refusal}
use Rattle.sheet.specs.declared.Whole.{Whole}
use Rattle.faults.specs.Number.{number_of}
use Rattle.sets.specs.Mask.{slots}
use Rattle.format.specs.Execution.{inits}
use Rattle.format.specs.Field.{field_place}
use Rattle.parse.specs.Parse.{refused, whole, parse}
use Rattle.entries.specs.declared.Counts.{Counts}
use Rattle.entries.specs.Entries.{events_in, execution}

-- the head is field 0, event e is field 1 + e, and rows and pairs follow; places that no event uses are 0
pub record Laid (s : List ℕ) (x : Counts) (at : List ℕ) : Type 0 where
  pub size : length at ≡ slots
  pub few : x.events ≤ slots
  pub inits : x.inits ≡ inits (events_in s x at)
  pub places : (e : ℕ) → e < x.events → get_or at e 0 ≡ field_place s (suc e)
  pub unused : drop x.events at ≡ replicate (slots - x.events) 0
  pub rows_at : x.rows_at ≡ field_place s (suc x.events)
  pub pairs_at_lem : x.pairs_at ≡ field_place s (suc (x.events + x.rows))

pub record HandedRefusal (s : List ℕ) (n p : ℕ) : Type 0 where
  pub says : parse s ≡ refused n p

pub record HandedWhole (s : List ℕ) (x : Counts) (at : List ℕ) : Type 0 where
  pub says : parse s ≡ whole (execution s x at)
  pub laid : Laid s x at

abbrev pub Handed : List ℕ → Result Whole Refusal → Type 0
Handed s (Err r) = HandedRefusal s (number_of r.fault) r.place
Handed s (Ok w) = HandedWhole s w.counts w.at
