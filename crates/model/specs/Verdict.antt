-- What is to be said of a sheet, with no buffer in sight: the answer that every caller gets who lends enough, and the order reported with it (01,
-- "What comes back"). Laws: proofs/VerdictLaws.antt.
--     max_scratch               bytes of scratch that are enough for every sheet
--     Verdict s answer o       what is said of the sheet s; o is the order, [] where none is reported
--     Reported s order answer order'     the verdict of s, with its order in front of the order buffer's rest
-- Assumes nothing.
use Rattle.std.specs.Prelude.{◌≡◌, Bool, List, [], ◌++◌, ℕ, ◌<◌, length, drop}
use Rattle.std.proofs.Math.Option.{none}
use Rattle.format.specs.Limits.{max_others, max_events}
use Rattle.format.specs.Execution.{Execution}
use Rattle.parse.specs.Parse.{refused, parse}
use Rattle.parse.specs.WellSheet.{WellSheet}
use Rattle.marks.specs.Table.{bytes_for}
use Rattle.orders.specs.Order.{In, Meets}
use Rattle.orders.specs.First.{FirstOf}
use Rattle.answer.specs.declared.Settled.{Settled}
use Rattle.answer.specs.declared.Answer.{Answer}
use Rattle.answer.specs.declared.Answer.TheVariants.{Refused, Broken, Consistent}
use Rattle.model.specs.Happens.{Tests}
use Rattle.model.specs.Rules.{Fault, faulty, fault}
use Rattle.model.specs.Order.{problem}
use Rattle.model.specs.Unsettled.{unsettled_pair}
use Rattle.model.specs.Judged.{Breaks, settled_of}

-- 01: "So n = 16 needs 8,192 bytes."; 02 §6: "the largest scratch is 32,768 bytes"
abbrev pub max_scratch : ℕ
max_scratch = bytes_for max_others

-- refused by 1 to 11 or 14
pub record SaidRefused (s : List ℕ) (n p : ℕ) (o : List ℕ) : Type 0 where
  pub says : parse s ≡ refused n p
  pub no_order : o ≡ []

-- well-formed, and f is the rule first broken
pub record SaidBroken (s : List ℕ) (f : Fault) (o : List ℕ) : Type 0 where
  pub execution : Execution
  pub sheet : WellSheet s execution
  pub hb : ℕ → ℕ → Bool
  pub tests : Tests execution hb
  pub breaks : Breaks execution hb f
  pub no_order : o ≡ []

-- well-formed, no rule of 21 to 25 is broken, and o is the first order that meets the rules
pub record SaidConsistent (s : List ℕ) (settled : Settled) (o : List ℕ) : Type 0 where
  pub execution : Execution
  pub sheet : WellSheet s execution
  pub hb : ℕ → ℕ → Bool
  pub tests : Tests execution hb
  pub unbroken : fault execution hb ≡ none
  pub first : FirstOf (Meets (problem execution hb)) o
  pub pair : settled ≡ settled_of (unsettled_pair execution hb)

abbrev pub Verdict : List ℕ → Answer → List ℕ → Type 0
Verdict s (Refused n p) o = SaidRefused s n p o
Verdict s (Broken n names) o = SaidBroken s (faulty n names) o
Verdict s (Consistent settled) o = SaidConsistent s settled o

-- 01: "the order buffer's first bytes, one for each event, hold the order; its rest is unchanged"; else the order buffer is unchanged
pub record Reported (s order : List ℕ) (answer : Answer) (order' : List ℕ) : Type 0 where
  pub told : List ℕ
  pub verdict : Verdict s answer told
  pub front : order' ≡ told ++ drop (length told) order
  pub events : (e : ℕ) → In e told → e < max_events
