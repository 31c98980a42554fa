-- What is claimed of the answers, for all sheets and buffers. Proved, a line each, in proofs/Demands.antt.
--     Demand1        any bytes get an answer; a refusal is by 01's table and changes nothing; a read byte without a row is refused
--     Demand2        what consistent, broken and orderly mean of a well-formed sheet, and that it is not refused
--     Demand3        an orderly execution replays on a plain memory            Testable          happens-before has a test
--     LeavesZero     what both buffers hold behind an answer that is no refusal
--     Agreement      two answers agree, buffers too                            SaysTheVerdict    lent enough, the answer is the sheet's own
--     OneVerdict     of a sheet one thing is to be said                        NeverShort        and that is never 12 or 13
--     OneRowEach     what is judged has one row for each read byte             EveryAgent        and an event of each agent that its head promises
--     FitsWord       every answer fits the exported word                       SameWord          one word, one answer
--     InitsFirst     the order that is reported begins with the inits          FirstNamed, LowestPair     the rule, the pair that is named is the first
--     LitmusRight    the entries of a table, each Judged                       Reduction         today's sheets: 01's sentences over events
--     LargestSheet   the most that a sheet has and needs, in numbers
-- "Well-formed" is `WellSheet s x` (parse/specs/WellSheet.antt): 01's bullets, 02 §1 and §4, said without the reader, and `Exactly` there: the reader accepts
-- the well-formed sheets and no others.
-- Assumes nothing.
use Rattle.std.specs.Prelude.{◌≡◌, ◌⊎◌, ◌↔◌, Bool, ℕ, ◌≤◌, ◌<◌, ◌^◌, ◌/◌, max, T, length, get_or, take, drop}
use mathlib.Core.List.{List, ◌++◌, Memᴰ}
use Rattle.std.proofs.Math.Option.{none}
use Rattle.basis.specs.Test.{from}
use Rattle.format.specs.Limits.{max_events}
use Rattle.format.specs.Event.{reads_at}
use Rattle.format.specs.Execution.{Execution, event, inits, others}
use Rattle.parse.specs.Promise.{OneRow, EachAppears}
use Rattle.parse.specs.Described.{described, Rowless}
use Rattle.parse.specs.WellSheet.{WellSheet}
use Rattle.parse.specs.Refusal.{Refusal}
use Rattle.orders.specs.Order.{Meets}
use Rattle.orders.specs.First.{FirstOf}
use Rattle.answer.specs.declared.Names.{Names}
use Rattle.answer.specs.declared.Settled.{Settled}
use Rattle.answer.specs.declared.Settled.TheVariants.{Orderly as AllSettled, Unsettled}
use Rattle.answer.specs.declared.Answer.{Answer}
use Rattle.answer.specs.declared.Answer.TheVariants.{Refused, Broken, Consistent}
use Rattle.answer.specs.Fit.{Fits}
use Rattle.answer.specs.Word.{packed}
use Rattle.model.specs.Happens.{Tests}
use Rattle.model.specs.Rules.{Fault, fault}
use Rattle.model.specs.Order.{problem}
use Rattle.model.specs.Unsettled.{unsettled, Orderly}
use Rattle.model.specs.Memory.{Explains}
use Rattle.model.specs.Judged.{needed, Breaks, Judged}
use Rattle.model.specs.Verdict.{max_scratch, Verdict, Reported}
use Rattle.model.specs.Lowest.{FirstBroken}
use Rattle.model.specs.Sentences.{Reduced}
use Rattle.model.specs.Litmus.{Entry}

abbrev pub IsRefused : Answer → Type 0
IsRefused a = (n : ℕ) × (p : ℕ) × (a ≡ Refused n p)

abbrev pub IsConsistent : Answer → Type 0
IsConsistent a = (t : Settled) × (a ≡ Consistent t)

-- ---- demand 1

-- every call has a result that is Judged
pub record Result (s scratch order : List ℕ) : Type 0 where
  pub answer : Answer
  pub scratch' : List ℕ
  pub order' : List ℕ
  pub judged : Judged s scratch order answer scratch' order'

-- 01's whole table: 1 to 11, and 02's 14, are the sheet's own; "12 scratch too short: 0", "13 order buffer shorter than the number of events: 0"
pub data Refuses (s : List ℕ) (room places : ℕ) : ℕ → ℕ → Type 0 where
  by_sheet : {n p : ℕ} → Refusal s n p → Refuses s room places n p
  short_scratch : (x : Execution) → WellSheet s x → room < needed x → Refuses s room places 12 0
  short_order : (x : Execution) → WellSheet s x → needed x ≤ room → places < length x.events → Refuses s room places 13 0

pub record ByTable (s scratch order : List ℕ) (n p : ℕ) (scratch' order' : List ℕ) : Type 0 where
  pub by_table : Refuses s (length scratch) (length order) n p
  pub scratch_kept : scratch' ≡ scratch
  pub order_kept : order' ≡ order

-- Demand 1: "Any bytes whatever get an answer, and the call ends. .. A bad record is refused by number and place; a read byte with no source is
-- always refused; a refused call changes nothing in the scratch or the order buffer." (That the call ends is what a contract of Rattle says.)
pub record Demand1 : Type 0 where
  pub answered : (s scratch order : List ℕ) → Result s scratch order
  pub refused : (s scratch order : List ℕ) (n p : ℕ) (scratch' order' : List ℕ) → Judged s scratch order (Refused n p) scratch' order'
      → ByTable s scratch order n p scratch' order'
  -- whatever else the sheet holds and whatever is lent
  pub no_row : (s scratch order : List ℕ) (answer : Answer) (scratch' order' : List ℕ) → Rowless (described s)
      → Judged s scratch order answer scratch' order' → IsRefused answer

-- ---- demand 2

-- no rule of 21 to 25 is broken, and some total order of all events meets the rules
abbrev pub Allowed : Execution → (ℕ → ℕ → Bool) → Type 0
Allowed x hb = (fault x hb ≡ none) × ((o : List ℕ) × Meets (problem x hb) o)

-- of one answer: consistent exactly when the execution is allowed, and then the reported order is the first that meets the rules; otherwise the
-- first broken rule; orderly exactly when there is no unsettled pair
pub record Meant (x : Execution) (hb : ℕ → ℕ → Bool) (answer : Answer) (order' : List ℕ) : Type 0 where
  pub not_refused : IsRefused answer → ⊥
  pub consistent : IsConsistent answer ↔ Allowed x hb
  pub first : IsConsistent answer → FirstOf (Meets (problem x hb)) (take (length x.events) order')
  pub broken : (IsConsistent answer → ⊥) → (f : Fault) × Breaks x hb f × (answer ≡ Broken f.number f.names)
  pub orderly : (answer ≡ Consistent AllSettled) ↔ (Allowed x hb × Orderly x hb)

abbrev pub Demand2 : Type 0
Demand2 = (s scratch order : List ℕ) (answer : Answer) (scratch' order' : List ℕ) (x : Execution) (hb : ℕ → ℕ → Bool)
    → WellSheet s x → needed x ≤ length scratch → length x.events ≤ length order → Tests x hb
    → Judged s scratch order answer scratch' order' → Meant x hb answer order'

-- there is such a test of happens-before (and one: `tests_unique` in proofs/HappensLaws.antt)
abbrev pub Testable : Type 0
Testable = (s : List ℕ) (x : Execution) → WellSheet s x → (hb : ℕ → ℕ → Bool) × Tests x hb

-- ---- demand 3

-- consistent and orderly; then for every order that meets the rules, running the events one after another on a plain byte memory, whatever it
-- held before, gives each read exactly the bytes recorded
abbrev pub Demand3 : Type 0
Demand3 = (s scratch order scratch' order' : List ℕ) (x : Execution) (hb : ℕ → ℕ → Bool) → WellSheet s x → Tests x hb
    → Judged s scratch order (Consistent AllSettled) scratch' order' → (o : List ℕ) → Meets (problem x hb) o → (m : ℕ → ℕ) → Explains x m o

-- ---- one answer

-- 01: "That any two conforming answers agree is itself proved"
abbrev pub Agreement : Type 0
Agreement = (s scratch order : List ℕ) (a b : Answer) (p q p' q' : List ℕ) → Judged s scratch order a p q → Judged s scratch order b p' q'
    → (a ≡ b) × (p ≡ p') × (q ≡ q')

-- Whoever lends as much as the longest sheet needs gets what is to be said of the sheet: never 12 or 13, and the order in front of the buffer.
abbrev pub SaysTheVerdict : Type 0
SaysTheVerdict = (s scratch order : List ℕ) (answer : Answer) (scratch' order' : List ℕ) → max_scratch ≤ length scratch → max_events ≤ length order
    → Judged s scratch order answer scratch' order' → Reported s order answer order'

abbrev pub OneVerdict : Type 0
OneVerdict = (s : List ℕ) (a b : Answer) (o q : List ℕ) → Verdict s a o → Verdict s b q → (a ≡ b) × (o ≡ q)

-- a verdict that refuses is by the sheet's own rows of the table: 1 to 11, and 02's 14
abbrev pub NeverShort : Type 0
NeverShort = (s : List ℕ) (n p : ℕ) (o : List ℕ) → Verdict s (Refused n p) o → Refusal s n p × ((n ≤ 11) ⊎ (n ≡ 14))

-- 02 §6, the numbers written out: "from 16 to 18, .. and the largest scratch is 32,768 bytes"; that some sheet has and needs as much: litmus 16
pub record Largest (x : Execution) : Type 0 where
  pub others_few : others x.events ≤ 18
  pub events_few : length x.events ≤ 22
  pub scratch_small : needed x ≤ 32768

abbrev pub LargestSheet : Type 0
LargestSheet = (s : List ℕ) (x : Execution) → WellSheet s x → Largest x

-- Where the answer is not a refusal, the sheet is well-formed, and each byte of each read has exactly one row.
pub record RowForEach (s : List ℕ) : Type 0 where
  pub execution : Execution
  pub sheet : WellSheet s execution
  pub one_row : (e n : ℕ) → T (reads_at (event execution e) n) → OneRow execution e n

abbrev pub OneRowEach : Type 0
OneRowEach = (s scratch order : List ℕ) (answer : Answer) (scratch' order' : List ℕ) → (IsRefused answer → ⊥)
    → Judged s scratch order answer scratch' order' → RowForEach s

-- 02 §1. Where the answer is not a refusal, each agent from 1 to the head's count has an event, as the sheet's fields describe them.
abbrev pub EveryAgent : Type 0
EveryAgent = (s scratch order : List ℕ) (answer : Answer) (scratch' order' : List ℕ) → (IsRefused answer → ⊥)
    → Judged s scratch order answer scratch' order' → EachAppears (described s)

-- 01: "Broken: the needed part of the scratch is zero, the rest and the order buffer unchanged. Consistent: the same for the scratch, and the order
-- buffer's first bytes, one for each event, hold the order; its rest is unchanged." n is the number of events that are not inits.
pub record Leaves (x : Execution) (scratch order : List ℕ) (answer : Answer) (scratch' order' : List ℕ) : Type 0 where
  pub size : length scratch' ≡ length scratch
  pub zero : (i : ℕ) → i < max 1 (2 ^ others x.events / 8) → get_or scratch' i 1 ≡ 0
  pub rest : drop (max 1 (2 ^ others x.events / 8)) scratch' ≡ drop (max 1 (2 ^ others x.events / 8)) scratch
  pub broken : (IsConsistent answer → ⊥) → order' ≡ order
  pub consistent : IsConsistent answer → drop (length x.events) order' ≡ drop (length x.events) order

abbrev pub LeavesZero : Type 0
LeavesZero = (s scratch order : List ℕ) (answer : Answer) (scratch' order' : List ℕ) (x : Execution) → WellSheet s x → (IsRefused answer → ⊥)
    → Judged s scratch order answer scratch' order' → Leaves x scratch order answer scratch' order'

-- ---- the word

-- 01: "with a 64-bit answer: .. 255 for none": every answer fits, and no name in it is 255
abbrev pub FitsWord : Type 0
FitsWord = (s scratch order : List ℕ) (answer : Answer) (scratch' order' : List ℕ) → Judged s scratch order answer scratch' order' → Fits 255 answer

-- two sheets with the same word got the same answer, whatever was lent
abbrev pub SameWord : Type 0
SameWord = (s scratch order t room places : List ℕ) (a b : Answer) (scratch' order' room' places' : List ℕ)
    → Judged s scratch order a scratch' order' → Judged t room places b room' places' → packed a ≡ packed b → a ≡ b

-- ---- what is named, and first

-- The order that is reported begins with all inits in number order.
abbrev pub InitsFirst : Type 0
InitsFirst = (s scratch order : List ℕ) (t : Settled) (scratch' order' : List ℕ) (x : Execution) → WellSheet s x
    → Judged s scratch order (Consistent t) scratch' order' → take (inits x.events) order' ≡ from 0 (inits x.events)

-- 01: "Each is tested over the whole sheet before the next. Rows are taken in order; then the lowest V. For 22 the lowest event, for 25 the lowest
-- (R, W, V)."
abbrev pub FirstNamed : Type 0
FirstNamed = (s scratch order : List ℕ) (n : ℕ) (names : Names) (scratch' order' : List ℕ) (x : Execution) (hb : ℕ → ℕ → Bool) → WellSheet s x
    → Tests x hb → Judged s scratch order (Broken n names) scratch' order' → FirstBroken x hb n names

-- 01: "Otherwise the lowest pair is named."
abbrev pub LowestPair : Type 0
LowestPair = (s scratch order : List ℕ) (e d : ℕ) (scratch' order' : List ℕ) (x : Execution) (hb : ℕ → ℕ → Bool) → WellSheet s x
    → Tests x hb → Judged s scratch order (Consistent (Unsettled e d)) scratch' order'
    → T (unsettled x hb e d) × ((e' d' : ℕ) → T (unsettled x hb e' d') → (e ≤ e') × (e' ≡ e → d ≤ d'))

-- ---- tables, and 01's own sentences

-- For any buffers of the lengths that the entry names, its answer is Judged, with its order in front of the order buffer's rest.
abbrev pub EntryRight : Entry → Type 0
EntryRight e = (scratch order : List ℕ) → length scratch ≡ e.room → length order ≡ e.places
    → (scratch' : List ℕ) × Judged e.sheet scratch order e.answer scratch' (e.order ++ drop (length e.order) order)

-- 01: "The (P) entries form a single table, tested against the definitions by one statement"
abbrev pub LitmusRight : List Entry → Type 0
LitmusRight table = (e : Entry) → Memᴰ e table → EntryRight e

-- Of a well-formed sheet, the definitions of this crate are 01's sentences over events.
abbrev pub Reduction : Type 0
Reduction = (s : List ℕ) (x : Execution) (hb : ℕ → ℕ → Bool) → WellSheet s x → Reduced x hb
