-- A lent list of event numbers (02 §5): what is at fault in it, and which fault is named first. A place is an index in the list; `get_or l i 0` is the
-- number at place i. Laws: proofs/ListLaws.antt.
--     stood l i e         the number e stands at one of the first i places of l
--     ahead l a b         a stands in l, and b after it
--     Trial               what a list is held against: events, a test of happens-before, rows, and a test of the V that a row bars
--     bad_at n l i         the number at place i is out of range or repeated
--     early_at c l i       the event at place i comes before one that happens before it
--     barred_at c l (r, v) in the order V stands after W and before R of the row, which bars it
--     list_fault c l       the first fault, in 02's order
--     Said, said_of        what is said of a list: it is accepted where there is no fault
-- Assumes nothing.
use Rattle.std.specs.Prelude.{Bool, cond, List, ℕ, ◌-◌, ◌^◌, min, eqb, ltb, get_or, length}
use Rattle.std.proofs.Math.Option.{Option, none, some}
use Rattle.basis.specs.Test.{◌and◌, ◌or◌, non, any, find, ◌else◌, mapped, across, from}
use Rattle.format.specs.declared.Row.{Row}
use Rattle.log_order.specs.declared.Fault.{Fault}
use Rattle.log_order.specs.declared.Fault.TheVariants.{WrongLength, BadNumber, TooEarly, Barred}
use Rattle.std.specs.Prelude.{Result, Ok, Err, ⊤}

-- ---- what stands where

unfoldable pub stood : List ℕ → ℕ → ℕ → Bool
stood l i e = any (λ (k : ℕ). eqb (get_or l k 0) e) (from 0 i)

-- the same of the first i places
unfoldable pub ahead_in : List ℕ → ℕ → ℕ → ℕ → Bool
ahead_in l i a b = any (λ (k : ℕ). eqb (get_or l k 0) b and stood l k a) (from 0 i)

abbrev pub ahead : List ℕ → ℕ → ℕ → Bool
ahead l a b = ahead_in l (length l) a b

-- ---- what a list is held against

pub record Trial : Type 0 where
  pub events : ℕ
  pub before : ℕ → ℕ → Bool
  pub rows : List Row
  pub bars : Row → ℕ → Bool

-- ---- what is at fault

-- 02 §5: "a number out of range or repeated"; READINGS 13: "a repeated number is placed at its second occurrence"
unfoldable pub bad_at : ℕ → List ℕ → ℕ → Bool
bad_at n l i = non (ltb (get_or l i 0) n) or stood l i (get_or l i 0)

-- 02 §5: "an event comes before one that happens before it"; READINGS 13: placed "at the event that is too early"
unfoldable pub early_at : Trial → List ℕ → ℕ → Bool
early_at c l i = any (λ (d : ℕ). c.before d (get_or l i 0) and ahead l (get_or l i 0) d) (from 0 c.events)

-- 01: "row (R, W) and writing sc event V placed after W and before R with any of: (a) .. (b) .. (c)"
unfoldable pub barred_at : Trial → List ℕ → Row × ℕ → Bool
barred_at c l p = ahead l p.0.writer p.1 and ahead l p.1 p.0.reader and c.bars p.0 p.1

-- ---- which is named

-- what 32 bits hold at most
abbrev pub longest : ℕ
longest = 2 ^ 32 - 1

-- 02 §5: "wrong length"
unfoldable pub length_fault : Trial → List ℕ → Option Fault
length_fault c l = cond (eqb (length l) c.events) none (some (WrongLength (min (length l) longest)))

-- 02 §5: "then the first place with a number out of range or repeated"
unfoldable pub number_fault : Trial → List ℕ → Option Fault
number_fault c l = mapped (λ (i : ℕ). BadNumber i) (find (bad_at c.events l) (from 0 (length l)))

-- 02 §5: "then the first place where an event comes before one that happens before it"
unfoldable pub early_fault : Trial → List ℕ → Option Fault
early_fault c l = mapped (λ (i : ℕ). TooEarly i) (find (early_at c l) (from 0 (length l)))

-- 02 §5: "then the first row and lowest V that break (a), (b) or (c)"; named as rule 24 names: R, W, V, A
unfoldable pub bar_fault : Trial → List ℕ → Option Fault
bar_fault c l =
    mapped (λ (p : Row × ℕ). Barred p.0.reader p.0.writer p.1 p.0.address)
    (find (barred_at c l) (across c.rows (from 0 c.events)))

unfoldable pub list_fault : Trial → List ℕ → Option Fault
list_fault c l = length_fault c l else number_fault c l else early_fault c l else bar_fault c l

-- what is said of a list: nothing against it, or its fault
abbrev pub Said : Type 0
Said = Result ⊤ Fault

unfoldable pub said_of : Option Fault → Said
said_of none = (Ok tt)
said_of (some f) = Err f
