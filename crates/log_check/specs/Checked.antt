-- What is said of a sheet and a list, for all bytes and all lists (02 §5; READINGS 13: "The sheet's own refusal, or 21 to 25, comes before the length
-- test"). Laws: proofs/CheckedLaws.antt.
--     trial x hb            what a list of the events of x is held against (log_order/specs/Listed.antt)
--     Checked s l reply     by cases: CheckedRefused, CheckedBroken, CheckedList
-- Assumes nothing.
use Rattle.std.specs.Prelude.{◌≡◌, Bool, List, ℕ, length}
use Rattle.std.proofs.Math.Option.{none, some}
use Rattle.format.specs.Execution.{Execution}
use Rattle.parse.specs.Parse.{refused, whole, parse}
use Rattle.model.specs.Happens.{Tests}
use Rattle.model.specs.Rules.{Fault, faulty, fault}
use Rattle.model.specs.Bar.{row_bars}
use Rattle.log_order.specs.Listed.{Said, Trial, list_fault, said_of}
use Rattle.log_check.specs.declared.Reply.{Reply}
use Rattle.log_check.specs.declared.Reply.TheVariants.{Refused, Broken, Listed}

-- all its events, happens-before, its rows, and the V that a row bars: 01's "(R, W) and writing sc event V .. with any of: (a) .. (b) .. (c)"
abbrev pub trial : Execution → (ℕ → ℕ → Bool) → Trial
trial x hb = record { events = length x.events; before = hb; rows = x.rows; bars = row_bars x hb }

-- 02 §5: "A sheet that is refused .. is answered so first, as 01 does"; no 12 and no 13
pub record CheckedRefused (s : List ℕ) (n p : ℕ) : Type 0 where
  pub says : parse s ≡ refused n p

-- 02 §5: "or broken by 21 to 25"
pub record CheckedBroken (s : List ℕ) (f : Fault) : Type 0 where
  pub execution : Execution
  pub describes : parse s ≡ whole execution
  pub hb : ℕ → ℕ → Bool
  pub tests : Tests execution hb
  pub breaks : fault execution hb ≡ some f

-- 02 §5: "accept exactly when .. Otherwise give the first fault"
pub record CheckedList (s l : List ℕ) (said : Said) : Type 0 where
  pub execution : Execution
  pub describes : parse s ≡ whole execution
  pub hb : ℕ → ℕ → Bool
  pub tests : Tests execution hb
  pub unbroken : fault execution hb ≡ none
  pub says : said ≡ said_of (list_fault (trial execution hb) l)

abbrev pub Checked : List ℕ → List ℕ → Reply → Type 0
Checked s l (Refused n p) = CheckedRefused s n p
Checked s l (Broken n names) = CheckedBroken s (faulty n names)
Checked s l (Listed said) = CheckedList s l said
