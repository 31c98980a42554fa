-- Which refusal comes at which place (01, "Numbers of the refusals": the table, row by row). It is proved of every refusal that `parse` gives:
-- proofs/RefusalLaws.antt (`refusal`).
--     fault_no s k         the fault of field number k, behind the fields before it; 0 for none
--     Faultless s         no field of s is at fault
--     WrongTag s k        field number k has a tag that is not allowed there
--     Blames s k n        field number k is to be refused by number n: its row of the table, with what is wrong
--     Refusal s n p       number n at place p, by a row of the table, and nothing that is tested before it is at fault
--     RefusedByTable              every refusal is by a row of the table
-- Assumes nothing.
use Rattle.std.specs.Prelude.{◌≡◌, false, List, ℕ, zero, suc, ◌<◌, ◌≤◌, T, length}
use Rattle.format.specs.Limits.{max_bytes, max_inits, max_others, max_pairs}
use Rattle.format.specs.Event.{reads_some}
use Rattle.format.specs.Execution.{Execution, event, inits, others}
use Rattle.format.specs.Field.{tag_at, next_at, value_at, field_place}
use Rattle.format.specs.Layout.{edition_of, head_of, agent_of, shape_of, row_of, pair_of}
use Rattle.content.specs.Content.{head_fits, event_fits, row_fits, pair_fits}
use Rattle.parse.specs.Parse.{refused, State, blank, fault_at, after, parse}
use Rattle.parse.specs.Promise.{HasEvent, EachAppears}
use Rattle.parse.specs.Described.{described, RowlessAt}
use Rattle.parse.specs.Framed.{Long}

-- what has been read behind k fields, and the fault of the next (specs/Parse.antt: `fault_at`, 01's tests of a field in their order)
unfoldable pub state_no : List ℕ → ℕ → State
state_no s zero = blank
state_no s (suc k) = after s (field_place s k) (state_no s k)

abbrev pub fault_no : List ℕ → ℕ → ℕ
fault_no s k = fault_at s (field_place s k) (state_no s k)

abbrev pub Faultless : List ℕ → Type 0
Faultless s = (k : ℕ) → field_place s k < length s → fault_no s k ≡ 0

-- the tag of field number k
abbrev pub tag_no : List ℕ → ℕ → ℕ
tag_no s k = tag_at s (field_place s k)

-- 01: "3 tag unknown, falling, a second head, or no head"
pub data WrongTag (s : List ℕ) : ℕ → Type 0 where
  unknown : (k : ℕ) → (1 ≤ tag_no s k → tag_no s k ≤ 4 → ⊥) → WrongTag s k
  falling : (k : ℕ) → tag_no s (suc k) < tag_no s k → WrongTag s (suc k)
  second_head : (k : ℕ) → tag_no s (suc k) ≡ 1 → WrongTag s (suc k)
  no_head_lem : (tag_no s 0 ≡ 1 → ⊥) → WrongTag s 0

-- the value of field number k, and what the fields before it describe
abbrev pub value_no : List ℕ → ℕ → List ℕ
value_no s k = value_at s (field_place s k)

abbrev pub so_far : List ℕ → ℕ → Execution
so_far s k = (state_no s k).got

pub data Blames (s : List ℕ) (k : ℕ) : ℕ → Type 0 where
  -- "2 field cut short": fewer than three bytes left, or a value past the end
  cut : length s < next_at s (field_place s k) → Blames s k 2
  tag : WrongTag s k → Blames s k 3
  -- "4 length wrong for the field"
  long : (Long (so_far s k).head.edition (tag_no s k) (value_no s k) → ⊥) → Blames s k 4
  -- "5, 6, 7, 8 content of head, event, row, pair": 01's sentences on it, crates/content/specs/Content.antt
  of_head : tag_no s k ≡ 1 → head_fits (head_of (edition_of (value_no s k)) (value_no s k)) ≡ false → Blames s k 5
  of_event : tag_no s k ≡ 2 → event_fits (so_far s k).head (so_far s k).events (agent_of (value_no s k)) (shape_of (so_far s k).head.edition (value_no s k)) ≡ false → Blames s k 6
  of_row : tag_no s k ≡ 3 → row_fits (so_far s k).events (so_far s k).rows (row_of (so_far s k).head.edition (value_no s k)) ≡ false → Blames s k 7
  of_pair : tag_no s k ≡ 4 → pair_fits (so_far s k).events (so_far s k).pairs (pair_of (value_no s k)) ≡ false → Blames s k 8
  -- "9 fifth init, 17th other event, 33rd pair"; 02 §6: "refusal 9 comes at the 19th"
  one_init_more : tag_no s k ≡ 2 → agent_of (value_no s k) ≡ 0 → max_inits ≤ inits (so_far s k).events → Blames s k 9
  one_other_more : tag_no s k ≡ 2 → (agent_of (value_no s k) ≡ 0 → ⊥) → max_others ≤ others (so_far s k).events → Blames s k 9
  one_pair_more : tag_no s k ≡ 4 → max_pairs ≤ length (so_far s k).pairs → Blames s k 9

-- 01: "Fields are taken front to back; the first at fault decides."
pub record FirstFault (s : List ℕ) (k n : ℕ) : Type 0 where
  pub none_before : (j : ℕ) → j < k → fault_no s j ≡ 0
  pub is : fault_no s k ≡ n
  pub blames : Blames s k n

pub data Refusal (s : List ℕ) : ℕ → ℕ → Type 0 where
  -- "1 sheet over 4,096 bytes; tested before all: 0"
  too_long : max_bytes < length s → Refusal s 1 0
  -- 2 to 9: "its tag"
  at_field : {n : ℕ} (k : ℕ) → length s ≤ max_bytes → field_place s k < length s → FirstFault s k n → Refusal s n (field_place s k)
  -- "3 .. the empty sheet: .. 0 if empty"
  empty : length s ≡ 0 → Refusal s 3 0
  -- "10 no event reads: sheet length"; "10 to 13 are tested in that order after all fields."
  none_reads : length s ≤ max_bytes → Faultless s → ((e : ℕ) → T (reads_some (event (described s) e)) → ⊥) → Refusal s 10 (length s)
  -- 02 §1: "a head that promises an agent with no event is refused, number 14, place the sheet length, tested after 10 and before 11"
  no_event : (a : ℕ) → length s ≤ max_bytes → Faultless s → (d : ℕ) → T (reads_some (event (described s) d)) → 1 ≤ a → a ≤ (described s).head.agents
      → (HasEvent (described s) a → ⊥) → Refusal s 14 (length s)
  -- "11 a read byte without a row: tag of the lowest such event"; the head is field 0, event e field 1 + e
  no_row : (e : ℕ) → length s ≤ max_bytes → Faultless s → (d : ℕ) → T (reads_some (event (described s) d)) → EachAppears (described s) → tag_no s (suc e) ≡ 2
      → RowlessAt (described s) e → ((d : ℕ) → d < e → RowlessAt (described s) d → ⊥) → Refusal s 11 (field_place s (suc e))

abbrev pub RefusedByTable : Type 0
RefusedByTable = (s : List ℕ) (n p : ℕ) → parse s ≡ refused n p → Refusal s n p
