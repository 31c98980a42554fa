-- What is said of a sheet, and what is left in the scratch and in the buffer for the bars, for all bytes (02 §8). Laws: proofs/ExplainedLaws.antt.
--     scratched room p       the refusal by 1 to 11, 14 or 12, or the execution; room is the length of the scratch
--     NoOrder x hb           no rule of 21 to 25 is broken, and no total order meets the rules: 26
--     kept_bars test x hb     the bars that are kept, by a test of "these leave no order"
--     Explained s scratch bars answer scratch' bars'     by cases: a record each
-- Assumes nothing.
use Rattle.std.specs.Prelude.{◌≡◌, Bool, cond, List, ◌++◌, ℕ, ◌*◌, ◌<◌, ◌≤◌, ltb, length, drop}
use Rattle.std.proofs.Math.Option.{none, some}
use Rattle.format.specs.Execution.{Execution}
use Rattle.parse.specs.Parse.{Parsed, refused, whole, parse}
use Rattle.marks.specs.Table.{cleared}
use Rattle.orders.specs.Posed.{Triple}
use Rattle.orders.specs.Order.{Meets}
use Rattle.answer.specs.declared.Settled.{Settled}
use Rattle.model.specs.Happens.{Tests}
use Rattle.model.specs.Rules.{Fault, faulty, fault}
use Rattle.model.specs.Order.{problem}
use Rattle.model.specs.Unsettled.{unsettled_pair}
use Rattle.model.specs.Judged.{needed, settled_of}
use Rattle.kept.specs.Bars.{bytes_of}
use Rattle.kept.specs.Kept.{kept, TellsNone}
use Rattle.why.specs.declared.Explanation.{Explanation}
use Rattle.why.specs.declared.Explanation.TheVariants.{Refused, Broken, Consistent, Kept, Small}
use Rattle.why.specs.Bars.{all_bars, OrderedBy}

-- 02 §8: "Scratch is tested first, by 01's rule"; READINGS 14: "means 12 after 11 and before judging and 16". "This entry has no order buffer and no 13."
unfoldable pub scratched : ℕ → Parsed → Parsed
scratched room (refused n p) = refused n p
scratched room (whole x) = cond (ltb room (needed x)) (refused 12 0) (whole x)

-- a refusal by 1 to 11, 14 or 12 changes nothing
pub record ExplainedRefused (s scratch bars : List ℕ) (n p : ℕ) (scratch' bars' : List ℕ) : Type 0 where
  pub says : scratched (length scratch) (parse s) ≡ refused n p
  pub scratch_kept : scratch' ≡ scratch
  pub bars_kept : bars' ≡ bars

-- 02 §8: "its needed part ends zero after a judged call"; READINGS 14: "The buffer is unchanged for every answer but a kept list."
-- of an execution that is judged: f is the rule of 21 to 25 first broken
pub record ExplainedBroken (s scratch bars : List ℕ) (f : Fault) (scratch' bars' : List ℕ) : Type 0 where
  pub execution : Execution
  pub describes : scratched (length scratch) (parse s) ≡ whole execution
  pub hb : ℕ → ℕ → Bool
  pub tests : Tests execution hb
  pub breaks : fault execution hb ≡ some f
  pub scratch_cleared : scratch' ≡ cleared (needed execution) scratch
  pub bars_kept : bars' ≡ bars

-- 02 §8: "Sheets not broken by 26 get the judge's own answer."
pub record ExplainedConsistent (s scratch bars : List ℕ) (settled : Settled) (scratch' bars' : List ℕ) : Type 0 where
  pub execution : Execution
  pub describes : scratched (length scratch) (parse s) ≡ whole execution
  pub hb : ℕ → ℕ → Bool
  pub tests : Tests execution hb
  pub unbroken : fault execution hb ≡ none
  pub order : (o : List ℕ) × Meets (problem execution hb) o
  pub pair : settled ≡ settled_of (unsettled_pair execution hb)
  pub scratch_cleared : scratch' ≡ cleared (needed execution) scratch
  pub bars_kept : bars' ≡ bars

-- 01: "26: no total order as below exists", tested after 21 to 25
pub record NoOrder (x : Execution) (hb : ℕ → ℕ → Bool) : Type 0 where
  pub unbroken : fault x hb ≡ none
  pub no_order : (o : List ℕ) → Meets (problem x hb) o → ⊥

-- 02 §8: "Then go through them from the first: drop a bar if the remaining bars together with happens-before still leave no order, else keep it."
abbrev pub kept_bars : (List Triple → Bool) → Execution → (ℕ → ℕ → Bool) → List Triple
kept_bars test x hb = kept test (all_bars x hb)

-- 02 §8: "Only the kept list is written, into a lent buffer, three bytes a bar, its count in the answer; bytes after it are unchanged."
pub record ExplainedKept (s scratch bars : List ℕ) (n : ℕ) (scratch' bars' : List ℕ) : Type 0 where
  pub execution : Execution
  pub describes : scratched (length scratch) (parse s) ≡ whole execution
  pub hb : ℕ → ℕ → Bool
  pub tests : Tests execution hb
  pub broken : NoOrder execution hb
  pub test : List Triple → Bool
  pub tells : TellsNone test (OrderedBy execution hb) (all_bars execution hb)
  pub count : length (kept_bars test execution hb) ≡ n
  pub room : n * 3 ≤ length bars
  pub written : bars' ≡ bytes_of (kept_bars test execution hb) ++ drop (n * 3) bars
  pub scratch_cleared : scratch' ≡ cleared (needed execution) scratch

-- 02 §8: "A buffer that can't hold the kept list is refused 16, place 0, and stays unchanged. Scratch .. its needed part ends zero .. after 16"
pub record ExplainedSmall (s scratch bars scratch' bars' : List ℕ) : Type 0 where
  pub execution : Execution
  pub describes : scratched (length scratch) (parse s) ≡ whole execution
  pub hb : ℕ → ℕ → Bool
  pub tests : Tests execution hb
  pub broken : NoOrder execution hb
  pub test : List Triple → Bool
  pub tells : TellsNone test (OrderedBy execution hb) (all_bars execution hb)
  pub over : length bars < length (kept_bars test execution hb) * 3
  pub scratch_cleared : scratch' ≡ cleared (needed execution) scratch
  pub bars_kept : bars' ≡ bars

abbrev pub Explained : List ℕ → List ℕ → List ℕ → Explanation → List ℕ → List ℕ → Type 0
Explained s scratch bars (Refused n p) scratch' bars' = ExplainedRefused s scratch bars n p scratch' bars'
Explained s scratch bars (Broken n names) scratch' bars' = ExplainedBroken s scratch bars (faulty n names) scratch' bars'
Explained s scratch bars (Consistent settled) scratch' bars' = ExplainedConsistent s scratch bars settled scratch' bars'
Explained s scratch bars (Kept n) scratch' bars' = ExplainedKept s scratch bars n scratch' bars'
Explained s scratch bars Small scratch' bars' = ExplainedSmall s scratch bars scratch' bars'
