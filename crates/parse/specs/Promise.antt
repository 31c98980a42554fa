-- What the reader promises of an execution: all that 01, "The sheet", and 02 §1 and §4 say of a well-formed one. The judge and its theorems use only this.
-- Proved of `parse` in proofs/PromiseLaws.antt (`promise`); laws for those who cite it, over membership in the lists: crates/model/proofs/Sound.antt.
--     WellEvent h d                 event d by itself, under the head h
--     OneRow x e n                  exactly one row for byte n of event e
--     HasEvent x a, EachAppears x   agent a has an event; each agent that the head promises has one
--     WellFormed x                  the whole execution
-- Assumes nothing.
use Rattle.std.specs.Prelude.{◌≡◌, ◌⊎◌, ◌↔◌, cond, ℕ, ◌+◌, ◌<◌, ◌≤◌, T, length, get_or}
use mathlib.Core.List.{[], ◌∷◌, Memᴰ}
use Rattle.format.specs.declared.Head.{Head}
use Rattle.format.specs.declared.Row.{Row}
use Rattle.format.specs.declared.Pair.{Pair}
use Rattle.format.specs.Limits.{max_edition, max_agents, max_memory, max_inits, max_others, max_pairs}
use Rattle.format.specs.Shape.{reads, writes, divides, unbroken, tear_of}
use Rattle.format.specs.Event.{Access, Event, is_init, meets, reads_at, writes_at, reads_some, is_marker}
use Rattle.format.specs.Execution.{Execution, event, inits, others, row_below, pair_below, blank_row, no_pair}

-- 01, the bullets "Init", "Others", "Marker", "Start plus width ..", "Data ..", of one event; today it has one access
pub record WellEvent (h : Head) (d : Event) : Type 0 where
  pub access : Access
  pub one_access : d.accesses ≡ access ∷ []
  -- "Init: agent 0, kind 2, mode 0, width 1 to 64."; no other event has agent 0 or mode 0
  pub init_agent : (access.shape.mode ≡ 0) ↔ (d.agent ≡ 0)
  pub init_kind : access.shape.mode ≡ 0 → access.shape.kind ≡ 2
  pub init_width : access.shape.mode ≡ 0 → (1 ≤ access.shape.width) × (access.shape.width ≤ max_memory)
  -- "Others: agent 1 to the head's count"
  pub agent : d.agent ≤ h.agents
  -- "Kinds: 1 read, 2 write, 3 read-modify-write, 4 marker. Modes: 0 init, 1 unordered, 2 sequentially consistent"
  pub kind : (1 ≤ access.shape.kind) × (access.shape.kind ≤ 4)
  pub mode : access.shape.mode ≤ 2
  -- "Reads and writes have mode 1 or 2; kind 3 has mode 2"
  pub both_sc_lem : access.shape.kind ≡ 3 → access.shape.mode ≡ 2
  -- "these three have widths 1, 2, 4, 8, and in mode 2 a start divisible by the width"
  pub width : (access.shape.mode ≡ 0 → ⊥) → (access.shape.kind ≡ 4 → ⊥)
      → (access.shape.width ≡ 1) ⊎ (access.shape.width ≡ 2) ⊎ (access.shape.width ≡ 4) ⊎ (access.shape.width ≡ 8)
  pub aligned : access.shape.mode ≡ 2 → (access.shape.kind ≡ 4 → ⊥) → T (divides access.shape.width access.shape.start)
  -- "Marker: mode 2, start 0, width 0."
  pub marker : access.shape.kind ≡ 4 → (access.shape.mode ≡ 2) × (access.shape.start ≡ 0) × (access.shape.width ≡ 0)
  -- "Start plus width is at most the memory size."
  pub inside : access.shape.start + access.shape.width ≤ h.size
  -- "Data is width bytes for a read (what was seen) and a write; twice the width for kind 3 (seen, then written); none for a marker."
  pub seen : length access.seen ≡ cond (reads access.shape) access.shape.width 0
  pub written : length access.written ≡ cond (writes access.shape) access.shape.width 0
  -- 02 §4: "0 may tear, 1 tear-free. It must be 1 for sc reads, writes and read-modify-writes, free for unordered ones of width 1, 2 or 4 whose start is
  -- divisible by the width, 0 for all else"
  pub tear : access.shape.tear ≤ 1
  pub tear_sc : access.shape.mode ≡ 2 → (access.shape.kind ≡ 4 → ⊥) → access.shape.tear ≡ 1
  pub tear_else : (access.shape.mode ≡ 2 → access.shape.kind ≡ 4) → (access.shape.mode ≡ 1 → T (unbroken access.shape.width access.shape.start) → ⊥)
      → access.shape.tear ≡ 0
  -- "Edition 1 stays": 01, "Tear-free: .."
  pub tear_rule : (h.edition ≡ 2 → ⊥) → access.shape.tear ≡ tear_of access.shape.kind access.shape.mode access.shape.start access.shape.width

-- row number j and pair number j
abbrev pub row : Execution → ℕ → Row
row x j = get_or x.rows j blank_row

abbrev pub pair : Execution → ℕ → Pair
pair x j = get_or x.pairs j no_pair

-- 01: "Each byte of each read has exactly one row."
pub record OneRow (x : Execution) (e n : ℕ) : Type 0 where
  pub number : ℕ
  pub there : number < length x.rows
  pub reader : (row x number).reader ≡ e
  pub address : (row x number).address ≡ n
  pub only : (j : ℕ) → j < length x.rows → (row x j).reader ≡ e → (row x j).address ≡ n → j ≡ number

-- agent a has an event
abbrev pub HasEvent : Execution → ℕ → Type 0
HasEvent x a = (e : ℕ) × (e < length x.events) × ((event x e).agent ≡ a)

-- 02 §1: each agent from 1 to the head's count has an event; "A marker counts as an event."
abbrev pub EachAppears : Execution → Type 0
EachAppears x = (a : ℕ) → 1 ≤ a → a ≤ x.head.agents → HasEvent x a

pub record WellFormed (x : Execution) : Type 0 where
  -- "edition (1), agents (1 to 8), memory size in bytes (1 to 64)"; 02 §4 adds edition 2
  pub edition : (1 ≤ x.head.edition) × (x.head.edition ≤ max_edition)
  pub agents : (1 ≤ x.head.agents) × (x.head.agents ≤ max_agents)
  pub size : (1 ≤ x.head.size) × (x.head.size ≤ max_memory)
  pub events : (e : ℕ) → e < length x.events → WellEvent x.head (event x e)
  -- "Inits stand before all other events and their ranges are disjoint. At most 4."
  pub inits_first : (e d : ℕ) → e < d → d < length x.events → T (is_init (event x d)) → T (is_init (event x e))
  pub inits_apart : (e d : ℕ) → e < d → d < length x.events → T (is_init (event x d))
      → (a : Access) → Memᴰ a (event x d).accesses → T (meets a.shape (event x e)) → ⊥
  pub inits_few : inits x.events ≤ max_inits
  -- "at most 16 together, markers included"; 02 §6: "from 16 to 18"
  pub others_few : others x.events ≤ max_others
  -- "the reader reads and covers the address; the writer writes and covers it; they differ"
  pub row_reads : (j : ℕ) → j < length x.rows → T (reads_at (event x (row x j).reader) (row x j).address)
  pub row_writes : (j : ℕ) → j < length x.rows → T (writes_at (event x (row x j).writer) (row x j).address)
  pub row_differs : (j : ℕ) → j < length x.rows → (row x j).reader ≡ (row x j).writer → ⊥
  -- "rows rise strictly by (reader, address)"
  pub rows_rise : (i j : ℕ) → i < j → j < length x.rows → T (row_below (row x i) (row x j))
  -- "Each byte of each read has exactly one row."
  pub row_for_each : (e n : ℕ) → T (reads_at (event x e) n) → OneRow x e n
  -- "two markers of different agents; pairs rise strictly; at most 32"
  pub pair_markers : (j : ℕ) → j < length x.pairs → T (is_marker (event x (pair x j).first)) × T (is_marker (event x (pair x j).second))
  pub pair_agents : (j : ℕ) → j < length x.pairs → (event x (pair x j).first).agent ≡ (event x (pair x j).second).agent → ⊥
  pub pairs_rise : (i j : ℕ) → i < j → j < length x.pairs → T (pair_below (pair x i) (pair x j))
  pub pairs_few : length x.pairs ≤ max_pairs
  -- 02 §1: each agent from 1 to the head's count has an event
  pub each_appears : EachAppears x
  -- refusal 10: some event reads
  pub some_read : (e : ℕ) × (e < length x.events) × T (reads_some (event x e))
