-- What the judge answers and leaves in both buffers, for all bytes (01, "What comes back", and the refusals 12 and 13). Laws:
-- proofs/JudgedLaws.antt.
--     needed x                       the bytes of scratch that x needs
--     admitted s room places         the refusal by 1 to 14, or the execution to be judged; room and places are the lengths of the buffers
--     Breaks x hb f                  f is the rule first broken, 26 among them, with its names
--     settled_of                      orderly, or the lowest unsettled pair
--     Judged s scratch order answer scratch' order'     by cases: JudgedRefused, JudgedBroken, JudgedConsistent
-- Assumes nothing.
use Rattle.std.specs.Prelude.{◌≡◌, ◌⊎◌, Bool, cond, List, ℕ, ltb, length, take, drop}
use Rattle.std.proofs.Math.Option.{Option, none, some}
use Rattle.format.specs.Execution.{Execution, others}
use Rattle.parse.specs.Parse.{Parsed, refused, whole, parse}
use Rattle.marks.specs.Table.{bytes_for, cleared}
use Rattle.orders.specs.Order.{Meets}
use Rattle.orders.specs.First.{FirstOf}
use Rattle.answer.specs.declared.Names.TheVariants.{Nobody}
use Rattle.answer.specs.declared.Settled.{Settled}
use Rattle.answer.specs.declared.Settled.TheVariants.{Orderly, Unsettled}
use Rattle.answer.specs.declared.Answer.{Answer}
use Rattle.answer.specs.declared.Answer.TheVariants.{Refused, Broken, Consistent}
use Rattle.model.specs.Happens.{Tests}
use Rattle.model.specs.Rules.{Fault, faulty, fault}
use Rattle.model.specs.Order.{problem}
use Rattle.model.specs.Unsettled.{unsettled_pair}

-- 01: "With n events that are not inits, the scratch needs the larger of 1 and 2^n / 8 bytes"
abbrev pub needed : Execution → ℕ
needed x = bytes_for (others x.events)

-- 01: "12 scratch too short", then "13 order buffer shorter than the number of events", both at place 0, after 1 to 11 and 14 and before the rules
unfoldable pub lent : ℕ → ℕ → Parsed → Parsed
lent room places (refused n p) = refused n p
lent room places (whole x) = cond (ltb room (needed x)) (refused 12 0) (cond (ltb places (length x.events)) (refused 13 0) (whole x))

unfoldable pub admitted : List ℕ → ℕ → ℕ → Parsed
admitted s room places = lent room places (parse s)

-- 01: "26: no total order as below exists", tested after 21 to 25
pub record Unordered (x : Execution) (hb : ℕ → ℕ → Bool) (f : Fault) : Type 0 where
  pub names : f ≡ faulty 26 Nobody
  pub unbroken : fault x hb ≡ none
  pub no_order : (o : List ℕ) → Meets (problem x hb) o → ⊥

abbrev pub Breaks : Execution → (ℕ → ℕ → Bool) → Fault → Type 0
Breaks x hb f = (fault x hb ≡ some f) ⊎ Unordered x hb f

-- 01: "Orderly: no such pair. Otherwise the lowest pair is named."
unfoldable pub settled_of : Option (ℕ × ℕ) → Settled
settled_of none = Orderly
settled_of (some p) = Unsettled p.0 p.1

-- 01: "Refused: both buffers unchanged."
pub record JudgedRefused (s scratch order : List ℕ) (n p : ℕ) (scratch' order' : List ℕ) : Type 0 where
  pub says : admitted s (length scratch) (length order) ≡ refused n p
  pub scratch_kept : scratch' ≡ scratch
  pub order_kept : order' ≡ order

-- 01: "Broken: the needed part of the scratch is zero, the rest and the order buffer unchanged."
pub record JudgedBroken (s scratch order : List ℕ) (f : Fault) (scratch' order' : List ℕ) : Type 0 where
  pub execution : Execution
  pub describes : admitted s (length scratch) (length order) ≡ whole execution
  pub hb : ℕ → ℕ → Bool
  pub tests : Tests execution hb
  pub breaks : Breaks execution hb f
  pub scratch_cleared : scratch' ≡ cleared (needed execution) scratch
  pub order_kept : order' ≡ order

-- 01: "Consistent: the same for the scratch, and the order buffer's first bytes, one for each event, hold the order; its rest is unchanged."
pub record JudgedConsistent (s scratch order : List ℕ) (settled : Settled) (scratch' order' : List ℕ) : Type 0 where
  pub execution : Execution
  pub describes : admitted s (length scratch) (length order) ≡ whole execution
  pub hb : ℕ → ℕ → Bool
  pub tests : Tests execution hb
  pub unbroken : fault execution hb ≡ none
  pub first : FirstOf (Meets (problem execution hb)) (take (length execution.events) order')
  pub pair : settled ≡ settled_of (unsettled_pair execution hb)
  pub scratch_cleared : scratch' ≡ cleared (needed execution) scratch
  pub order_rest : drop (length execution.events) order' ≡ drop (length execution.events) order

-- 01: "An answer is one of three kinds, each with its own numbers: refused (number, place), broken (number, four names), consistent (orderly, or
-- the unsettled pair). What the scratch holds on entry does not matter."
abbrev pub Judged : List ℕ → List ℕ → List ℕ → Answer → List ℕ → List ℕ → Type 0
Judged s scratch order (Refused n p) scratch' order' = JudgedRefused s scratch order n p scratch' order'
Judged s scratch order (Broken n names) scratch' order' = JudgedBroken s scratch order (faulty n names) scratch' order'
Judged s scratch order (Consistent settled) scratch' order' = JudgedConsistent s scratch order settled scratch' order'
