-- What is known when the fields of a sheet are through, and what is made of it: the contracts of the reader's own functions, no part of what it promises.
--     refusal_of                       a fault at a place
--     Scanned                       what is known when the fields are through
--     Finished r x p                r is the answer p, where the execution is x
-- Assumes nothing.
use Rattle.std.specs.Prelude.{◌≡◌, List, ℕ, Result, Ok, Err}
use Rattle.format.specs.Execution.{Execution}
use Rattle.sheet.specs.declared.Refusal.{Refusal}
use Rattle.sheet.specs.declared.Scan.{Scan}
use Rattle.faults.specs.declared.Fault.{Fault}
use Rattle.faults.specs.Number.{number_of}
use Rattle.parse.specs.Parse.{Parsed, refused, whole, parse}
use Rattle.entries.specs.declared.Counts.{Counts}
use Rattle.entries.specs.Entries.{events_in}
use Rattle.spot.specs.declared.Tally.{Tally}
use Rattle.spot.specs.Between.{Tallied, Tabled, Through}

abbrev pub refusal_of : Fault → ℕ → Refusal
refusal_of f p = record { fault = f; place = p }

pub record Gone (s : List ℕ) (last : ℕ) (x : Counts) (k : Tally) (at t t' q q' : List ℕ) : Type 0 where
  pub through : Through s last x at
  pub tallied : Tallied (events_in s x at) k
  pub tabled : Tabled s x at t t' q q'

abbrev pub ScannedTo : List ℕ → List ℕ → List ℕ → Result (Unit {0}) Refusal → ℕ → Counts → Tally → List ℕ → List ℕ → List ℕ → Type 0
ScannedTo s t q (Err r) last x k at t' q' = parse s ≡ refused (number_of r.fault) r.place
ScannedTo s t q (Ok u) last x k at t' q' = Gone s last x k at t t' q q'

abbrev pub Scanned : List ℕ → List ℕ → List ℕ → Scan → List ℕ → List ℕ → List ℕ → Type 0
Scanned s t q r at t' q' = ScannedTo s t q r.end r.last r.x r.t at t' q'

abbrev pub Finished : Result (Unit {0}) Refusal → Execution → Parsed → Type 0
Finished (Err r) x p = p ≡ refused (number_of r.fault) r.place
Finished (Ok u) x p = p ≡ whole x
