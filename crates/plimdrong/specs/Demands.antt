-- What the exported words tell (01, "What comes back"; 02 §2, §4, §5 and §8). Proved, a line each, in proofs/Demands.antt.
--     WordTells         from the word alone, as the header's macros read it: kind, number, place and names of the one answer
--     SameAnswer        two sheets with the same word got the same answer
--     WriteTells        the writer's answer, from its word alone
--     WriteThenTable    "Reading what was written gives the table back": what was written, asked for its table, lends that table
--     TableThenWrite    "writing what was read from a well-formed sheet gives the same bytes": the table that a sheet was asked for, written, is the sheet
--     CopyJudged        02 §4: a sheet and its copy at edition 2 (encode/specs/Copy.antt) get the same word from the judge, and the same is left in both
--                       buffers
--     CheckTells        the reply to a list, from its word alone
--     ReportedChecked   02 §5: every order that the judge reports is accepted, of the two words
--     CheckedJudged     a sheet of which a list is accepted: the judge says consistent, where it is lent enough
--     CheckedReplays    accepted here and orderly there: run in the order of the list on a plain memory, each read gets its bytes
--     WhyTells          the explanation, from its word alone
--     WhyBeside         02 §8: the judge's own word, but for 26 (kind 8, or 16) and for the judge's 13
-- Assumes nothing.
use Rattle.std.specs.Prelude.{◌≡◌, List, ◌++◌, ℕ, ◌≤◌, length, take, drop}
use Rattle.format.specs.Limits.{max_bytes}
use Rattle.format.specs.Execution.{Execution}
use Rattle.parse.specs.WellSheet.{WellSheet}
use Rattle.answer.specs.Read.{kind_in, number_in, place_in, answer_in}
use Rattle.answer.specs.declared.Names.{Names}
use Rattle.answer.specs.declared.Answer.TheVariants.{Refused, Broken}
use Rattle.answer.specs.Word.{word, packed}
use Rattle.encode.specs.Encode.{encode}
use Rattle.encode.specs.Lend.{Slices, table_in}
use Rattle.encode.specs.Copy.{slices_at}
use Rattle.model.specs.Judged.{Judged}
use Rattle.model.specs.Memory.{Explains}
use Rattle.writer.specs.Written.{Wrote}
use Rattle.writer.specs.Word.{written_in}
use Rattle.log_check.specs.Checked.{Checked}
use Rattle.log_check.specs.Word.{reply_in}
use Rattle.why.specs.Explained.{Explained}
use Rattle.why.specs.Word.{explanation_in}
use Rattle.plimdrong.specs.JudgedWord.{JudgedWord}
use Rattle.plimdrong.specs.WrittenWord.{WrittenWord}
use Rattle.plimdrong.specs.TableWord.{TableWord, fronts_in}
use Rattle.plimdrong.specs.CheckedWord.{CheckedWord}
use Rattle.plimdrong.specs.WhyWord.{WhyWord}

abbrev pub WordTells : Type 0
WordTells = (s scratch order : List ℕ) (r : ℕ) (scratch' order' : List ℕ) → JudgedWord s scratch order r scratch' order'
    → Judged s scratch order (answer_in r) scratch' order'

abbrev pub SameAnswer : Type 0
SameAnswer = (s scratch order t room places : List ℕ) (r : ℕ) (scratch' order' room' places' : List ℕ)
    → (e : JudgedWord s scratch order r scratch' order') (f : JudgedWord t room places r room' places') → e.answer ≡ f.answer

abbrev pub WriteTells : Type 0
WriteTells = (l : Slices) (out : List ℕ) (r : ℕ) (out' : List ℕ) → WrittenWord l out r out' → Wrote (encode (table_in l)) out (written_in r) out'

-- 5 written; 14 a table
abbrev pub WriteThenTable : Type 0
WriteThenTable = (l : Slices) (out : List ℕ) (r : ℕ) (out' : List ℕ) → WrittenWord l out r out' → kind_in r ≡ 5
    → (entry exit : Slices) (w : ℕ) → TableWord (take (place_in r) out') entry w exit → kind_in w ≡ 14 → table_in (fronts_in w exit) ≡ table_in l

abbrev pub TableThenWrite : Type 0
TableThenWrite = (s : List ℕ) (entry exit : Slices) (w : ℕ) → TableWord s entry w exit → kind_in w ≡ 14
    → (out out' : List ℕ) (r : ℕ) → length s ≤ length out → WrittenWord (fronts_in w exit) out r out' → (r ≡ word 5 0 (length s)) × (out' ≡ s ++ drop (length s) out)

-- What one sheet is answered, the other is too.
abbrev pub SameVerdict : List ℕ → List ℕ → Type 0
SameVerdict s t = (scratch order : List ℕ) (a b : ℕ) (p q p' q' : List ℕ) → JudgedWord s scratch order a p q → JudgedWord t scratch order b p' q'
    → (a ≡ b) × (p ≡ p') × (q ≡ q')

-- The copy, made by the exports: the table that a sheet was asked for, 2 written into the first byte of its head, written into a buffer of 4,096 bytes or more.
abbrev pub CopyJudged : Type 0
CopyJudged = (s : List ℕ) (entry exit : Slices) (w : ℕ) → TableWord s entry w exit → kind_in w ≡ 14
    → (out out' : List ℕ) (r : ℕ) → max_bytes ≤ length out → WrittenWord (slices_at 2 (fronts_in w exit)) out r out'
    → (kind_in r ≡ 5) × SameVerdict s (take (place_in r) out')

-- ---- a list

abbrev pub CheckTells : Type 0
CheckTells = (s l : List ℕ) (r : ℕ) → CheckedWord s l r → Checked s l (reply_in r)

-- 02 §5: "Every order the judge reports must be accepted here." 3 consistent; 6 accepted
abbrev pub ReportedChecked : Type 0
ReportedChecked = (s scratch order : List ℕ) (r : ℕ) (scratch' order' : List ℕ) → JudgedWord s scratch order r scratch' order' → kind_in r ≡ 3
    → (x : Execution) → WellSheet s x → (w : ℕ) → CheckedWord s (take (length x.events) order') w → w ≡ word 6 0 0

-- 1 refused
abbrev pub CheckedJudged : Type 0
CheckedJudged = (s l scratch order : List ℕ) (r : ℕ) (scratch' order' : List ℕ) → CheckedWord s l (word 6 0 0) → JudgedWord s scratch order r scratch' order'
    → (kind_in r ≡ 1 → ⊥) → kind_in r ≡ 3

-- 02 §5: "Demand 3 covers accepted lists too." Number 0 of kind 3: orderly
abbrev pub CheckedReplays : Type 0
CheckedReplays = (s l scratch order : List ℕ) (r : ℕ) (scratch' order' : List ℕ) → CheckedWord s l (word 6 0 0) → JudgedWord s scratch order r scratch' order'
    → kind_in r ≡ 3 → number_in r ≡ 0 → (x : Execution) → WellSheet s x → (m : ℕ → ℕ) → Explains x m l

-- ---- why no order exists

abbrev pub WhyTells : Type 0
WhyTells = (s scratch bars : List ℕ) (r : ℕ) (scratch' bars' : List ℕ) → WhyWord s scratch bars r scratch' bars' → Explained s scratch bars (explanation_in r) scratch' bars'

-- 02 §8: "Sheets not broken by 26 get the judge's own answer."; the judge with an order buffer that is too short says 13
pub data Beside (r w : ℕ) : Type 0 where
  same : w ≡ r → Beside r w
  kept : (names : Names) (n : ℕ) → r ≡ packed (Broken 26 names) → w ≡ word 8 26 n → Beside r w
  small : (names : Names) → r ≡ packed (Broken 26 names) → w ≡ packed (Refused 16 0) → Beside r w
  short_order : (p : ℕ) → r ≡ packed (Refused 13 p) → Beside r w

abbrev pub WhyBeside : Type 0
WhyBeside = (s scratch order bars : List ℕ) (r w : ℕ) (p q p' q' : List ℕ) → JudgedWord s scratch order r p q → WhyWord s scratch bars w p' q' → Beside r w
