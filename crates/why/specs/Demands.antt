-- What is claimed of the explanations, for all sheets and buffers (02 §8). Proved in proofs/Demands.antt.
--     EveryWhy        every sheet and both buffers get an explanation            Agreement      and one, buffers too
--     KeptMeans       what the kept list is: a part of the bars, rising, which leaves no order, and without any one of which some order exists
--     KeptNever       it is empty exactly where happens-before alone leaves no order, and that never comes
--     ThreeEvents     a bar names three different events of the sheet
--     AsTheJudge      a sheet that is not broken by 26 gets the judge's own answer; one that is, a kept list (or 16)
--     KeptExactly     a kept list (or 16) comes exactly where the judge says 26
--     Untouched       a refusal by 1 to 14 changes nothing, and 16 nothing but the scratch
--     RoomEnough      with 31,944 bytes for the bars 16 never comes
--     FitsWord        every explanation is read back from its word
-- Assumes nothing.
use Rattle.std.specs.Prelude.{◌≡◌, ◌⊎◌, ◌↔◌, Bool, ℕ, ◌*◌, ◌<◌, ◌≤◌, length, drop}
use mathlib.Core.List.{List, [], ◌∷◌, ◌++◌, Memᴰ}
use Rattle.basis.proofs.FindLaws.{Sorted, Then}
use Rattle.format.specs.Execution.{Execution}
use Rattle.parse.specs.WellSheet.{WellSheet}
use Rattle.marks.specs.Table.{cleared}
use Rattle.orders.specs.Posed.{Triple}
use Rattle.answer.specs.declared.Names.TheVariants.{Nobody}
use Rattle.answer.specs.declared.Answer.{Answer}
use Rattle.answer.specs.declared.Answer.TheVariants.{Refused as JudgeRefused, Broken as JudgeBroken, Consistent as JudgeConsistent}
use Rattle.model.specs.Happens.{Tests}
use Rattle.model.specs.Judged.{needed, Judged}
use Rattle.kept.specs.Bars.{bytes_of}
use Rattle.kept.specs.Kept.{Sub}
use Rattle.why.specs.declared.Explanation.{Explanation}
use Rattle.why.specs.declared.Explanation.TheVariants.{Refused, Broken, Consistent, Kept, Small}
use Rattle.why.specs.Bars.{all_bars, OrderedBy}
use Rattle.why.specs.Explained.{NoOrder, Explained}
use Rattle.why.specs.Word.{why_word, explanation_in}

-- every call has a result that is Explained
pub record Result (s scratch bars : List ℕ) : Type 0 where
  pub answer : Explanation
  pub scratch' : List ℕ
  pub bars' : List ℕ
  pub explained : Explained s scratch bars answer scratch' bars'

-- demand 1 for this entry: "Any bytes whatever get an answer"
abbrev pub EveryWhy : Type 0
EveryWhy = (s scratch bars : List ℕ) → Result s scratch bars

-- 01: "That any two conforming answers agree is itself proved"
abbrev pub Agreement : Type 0
Agreement = (s scratch bars : List ℕ) (a b : Explanation) (p q p' q' : List ℕ) → Explained s scratch bars a p q → Explained s scratch bars b p' q'
    → (a ≡ b) × (p ≡ p') × (q ≡ q')

-- ---- the kept list

-- 02 §8: "rising by (R, W, V)"
abbrev pub Rises : List Triple → Type 0
Rises l = Sorted (Then (λ (a b : ℕ). a < b) (Then (λ (a b : ℕ). a < b) (λ (a b : ℕ). a < b))) l

-- 02 §8: "What is kept admits no order, and without any one of its bars some order exists."
pub record Core (x : Execution) (hb : ℕ → ℕ → Bool) (l : List Triple) : Type 0 where
  pub part : Sub l (all_bars x hb)
  pub rises : Rises l
  pub none : OrderedBy x hb l → ⊥
  pub each : (p q : List Triple) (b : Triple) → l ≡ p ++ (b ∷ q) → OrderedBy x hb (p ++ q)

-- of the kept list that stands in front of the buffer
pub record Stands (x : Execution) (hb : ℕ → ℕ → Bool) (n : ℕ) (bars bars' : List ℕ) : Type 0 where
  pub list : List Triple
  pub core : Core x hb list
  pub count : length list ≡ n
  pub front : bars' ≡ bytes_of list ++ drop (n * 3) bars
  -- nothing is kept exactly where happens-before alone leaves no order
  pub nothing : (n ≡ 0) ↔ (OrderedBy x hb [] → ⊥)

abbrev pub KeptMeans : Type 0
KeptMeans = (s scratch bars : List ℕ) (n : ℕ) (scratch' bars' : List ℕ) (x : Execution) (hb : ℕ → ℕ → Bool) → WellSheet s x → Tests x hb
    → Explained s scratch bars (Kept n) scratch' bars' → NoOrder x hb × Stands x hb n bars bars'

-- a sheet that passed 22 has an order that meets happens-before; so some bar is always kept
abbrev pub KeptNever : Type 0
KeptNever = (s scratch bars scratch' bars' : List ℕ) → Explained s scratch bars (Kept 0) scratch' bars' → ⊥

-- 02 §8: "a triple (R, W, V) of three different events"
pub record Three (n : ℕ) (b : Triple) : Type 0 where
  pub reader : b.0 < n
  pub writer : b.1.0 < n
  pub between : b.1.1 < n
  pub reader_writer : b.0 ≡ b.1.0 → ⊥
  pub reader_between : b.0 ≡ b.1.1 → ⊥
  pub writer_between : b.1.0 ≡ b.1.1 → ⊥

abbrev pub ThreeEvents : Type 0
ThreeEvents = (s : List ℕ) (x : Execution) (hb : ℕ → ℕ → Bool) → WellSheet s x → Tests x hb → (b : Triple) → Memᴰ b (all_bars x hb) → Three (length x.events) b

-- ---- beside the judge

abbrev pub IsKept : Explanation → Type 0
IsKept r = ((n : ℕ) × (r ≡ Kept n)) ⊎ (r ≡ Small)

-- 02 §8: "Sheets not broken by 26 get the judge's own answer." The judge with an order buffer that is too short says 13.
abbrev pub Alike : Answer → Explanation → Type 0
Alike (JudgeRefused n p) r = (r ≡ Refused n p) ⊎ (n ≡ 13)
Alike (JudgeBroken n names) r = (r ≡ Broken n names) ⊎ ((n ≡ 26) × IsKept r)
Alike (JudgeConsistent t) r = r ≡ Consistent t

abbrev pub AsTheJudge : Type 0
AsTheJudge = (s scratch order bars : List ℕ) (a : Answer) (p q : List ℕ) (r : Explanation) (p' q' : List ℕ) → Judged s scratch order a p q
    → Explained s scratch bars r p' q' → Alike a r

abbrev pub KeptExactly : Type 0
KeptExactly = (s scratch order bars : List ℕ) (a : Answer) (p q : List ℕ) (r : Explanation) (p' q' : List ℕ) (x : Execution) → WellSheet s x
    → length x.events ≤ length order → Judged s scratch order a p q → Explained s scratch bars r p' q' → (a ≡ JudgeBroken 26 Nobody) ↔ IsKept r

-- ---- buffers

-- 02 §8: what is refused leaves the buffer, and but for 16 the scratch, as they were
pub record Untouched : Type 0 where
  pub refused : (s scratch bars : List ℕ) (n p : ℕ) (scratch' bars' : List ℕ) → Explained s scratch bars (Refused n p) scratch' bars'
      → (scratch' ≡ scratch) × (bars' ≡ bars)
  pub small : (s scratch bars scratch' bars' : List ℕ) (x : Execution) → WellSheet s x → Explained s scratch bars Small scratch' bars'
      → (scratch' ≡ cleared (needed x) scratch) × (bars' ≡ bars)

-- 22 events have 22 * 22 * 22 triples
abbrev pub RoomEnough : Type 0
RoomEnough = (s scratch bars scratch' bars' : List ℕ) → 31944 ≤ length bars → Explained s scratch bars Small scratch' bars' → ⊥

abbrev pub FitsWord : Type 0
FitsWord = (s scratch bars : List ℕ) (r : Explanation) (scratch' bars' : List ℕ) → Explained s scratch bars r scratch' bars' → explanation_in (why_word r) ≡ r
