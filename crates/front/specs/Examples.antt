-- Executions with a second access, and what the steps over their tables and the model's definitions give, written out. Computed in
-- proofs/Examples.antt, by one statement. A flat byte is region * 64 + address: 0 is of region 0, 64 of region 1, 128 of region 2.
--     Example, examples     an execution, its successors, and what comes: the rule, the bars, the unsettled pair
--     table_of, rows_of       the tables, filled access by access and row by row
--     steps_of, model_of      what the steps give over these tables, what the model's definitions give
--     opens                 happens-before would be more than the direct steps
--     Right                 both give what is stated, and no example opens
--     Met                   the premise of specs/Steps.antt, for events with two accesses
-- Assumes nothing.
use Rattle.std.specs.Prelude.{◌≡◌, Bool, true, false, List, [], ◌∷◌, ℕ, suc, ◌+◌, ◌*◌, length, get_or, set, take, replicate}
use Rattle.std.proofs.Math.Option.{Option, none, some}
use Rattle.basis.specs.Test.{◌and◌, non, any, each, from, across}
use Rattle.format.specs.declared.Row.{Row}
use Rattle.format.specs.Event.{Access, Event, saw, wrote}
use Rattle.format.specs.Execution.{Execution, event, no_head}
use Rattle.sets.specs.Mask.{slots, mem}
use Rattle.answer.specs.declared.Names.TheVariants.{Row as OfRow, Between, Torn}
use Rattle.answer.specs.declared.Settled.{Settled}
use Rattle.answer.specs.declared.Settled.TheVariants.{Orderly, Unsettled}
use Rattle.model.specs.Rules.{Fault, faulty, fault}
use Rattle.model.specs.Bar.{bar}
use Rattle.model.specs.Happens.{step}
use Rattle.model.specs.Unsettled.{unsettled_pair}
use Rattle.model.specs.Judged.{settled_of}
use Rattle.cells.specs.Walk.{picked}
use Rattle.tables.specs.Tables.{columns, row_cells, putting, putting_row}
use Rattle.before.specs.Before.{steps_in, columns_in}
use Rattle.bars.specs.Bars.{filled_in}
use Rattle.rules.specs.Rules.{rule_in}
use Rattle.settle.specs.Settle.{settled_in}
use Rattle.front.specs.Tabled.{found_of}
use Rattle.front.specs.Steps.{Stored}

-- ---- accesses and events

abbrev pub initial : ℕ → List ℕ → Access
initial start written = record { shape = record { kind = 2; mode = 0; start = start; width = length written; tear = 0 }; seen = []; written = written }

abbrev pub reading : ℕ → ℕ → List ℕ → Access
reading mode start seen = record { shape = record { kind = 1; mode = mode; start = start; width = length seen; tear = 1 }; seen = seen; written = [] }

abbrev pub writing : ℕ → ℕ → List ℕ → Access
writing mode start written = record { shape = record { kind = 2; mode = mode; start = start; width = length written; tear = 1 }; seen = []; written = written }

abbrev pub by : ℕ → List Access → Event
by agent l = record { agent = agent; accesses = l }

abbrev pub a_row : ℕ → ℕ → ℕ → Row
a_row r a w = record { reader = r; address = a; writer = w }

abbrev pub of : List Event → List Row → Execution
of events rows = record { head = no_head; events = events; rows = rows; pairs = [] }

-- ---- the tables

-- the accesses from slot k on
unfoldable pub fill_slots : List ℕ → ℕ → List Access → List ℕ
fill_slots t k [] = t
fill_slots t k (a ∷ l) = fill_slots (putting t k a.shape) (suc k) l

unfoldable pub fill_events : List ℕ → ℕ → List Event → List ℕ
fill_events t e [] = t
fill_events t e (d ∷ l) = fill_events (fill_slots (set t e d.agent) (2 * e) d.accesses) (suc e) l

unfoldable pub fill_rows : Execution → List ℕ → ℕ → List Row → List ℕ
fill_rows x q j [] = q
fill_rows x q j (r ∷ l) = fill_rows x (putting_row q j r (saw (event x r.reader) r.address) (wrote (event x r.writer) r.address)) (suc j) l

abbrev pub table_of : Execution → List ℕ
table_of x = fill_events (replicate columns 0) 0 x.events

abbrev pub rows_of : Execution → List ℕ
rows_of x = fill_rows x (replicate row_cells 0) 0 x.rows

-- ---- what comes

pub record Comes : Type 0 where
  -- event by event the set of those that it happens before, of those that happen before it
  pub succ : List ℕ
  pub pred : List ℕ
  pub rule : Option Fault
  -- (R, W, V)
  pub bars : List (ℕ × (ℕ × ℕ))
  pub settled : Settled

module _ {A : Type 0} where
  unfoldable pub added : Bool → A → List A → List A
  added true a l = a ∷ l
  added false a l = l

  unfoldable pub passing : (A → Bool) → List A → List A
  passing f [] = []
  passing f (a ∷ l) = let r = passing f l in added (f a) a r

abbrev pub triples : ℕ → List (ℕ × (ℕ × ℕ))
triples n = across (from 0 n) (across (from 0 n) (from 0 n))

-- In these examples the direct steps are closed already (`opens`), so that no closure is computed.
abbrev pub steps_of : Execution → Comes
steps_of x =
    let n = length x.events in
    let m = length x.rows in
    let t = table_of x in
    let q = rows_of x in
    let succ = steps_in t n q m [] 0 (replicate slots 0) in
    let pred = columns_in succ n (replicate slots 0) in
    let bars = filled_in t n succ pred q m (replicate (slots * slots) 0) in
    record {
      succ = take n succ;
      pred = take n pred;
      rule = found_of (rule_in t n succ pred q m);
      bars = passing (λ (b : ℕ × (ℕ × ℕ)). mem (get_or bars (b.1.1 * slots + b.1.0) 0) b.0) (triples n);
      settled = settled_in t succ n;
    }

abbrev pub model_of : Execution → Comes
model_of x =
    let n = length x.events in
    let hb = step x in
    record {
      succ = each (λ (e : ℕ). picked n (λ (d : ℕ). hb e d)) (from 0 n);
      pred = each (λ (d : ℕ). picked n (λ (e : ℕ). hb e d)) (from 0 n);
      rule = fault x hb;
      bars = passing (λ (b : ℕ × (ℕ × ℕ)). bar x hb b.0 b.1.0 b.1.1) (triples n);
      settled = settled_of (unsettled_pair x hb);
    }

-- a step after a step that is no step
abbrev pub opens : Execution → Bool
opens x =
    any (λ (b : ℕ × (ℕ × ℕ)). step x b.0 b.1.0 and step x b.1.0 b.1.1 and non (step x b.0 b.1.1)) (triples (length x.events))

-- ---- the examples

pub record Example : Type 0 where
  pub x : Execution
  pub comes : Comes

-- an init of one byte in region 0 and one in region 1
abbrev pub inits : Event
inits = by 0 (initial 0 (0 ∷ []) ∷ initial 64 (0 ∷ []) ∷ [])

-- one event reads both bytes, the second of them wrongly
abbrev pub reads_both : Execution
reads_both = of (inits ∷ by 1 (reading 1 0 (0 ∷ []) ∷ reading 1 64 (7 ∷ []) ∷ []) ∷ []) (a_row 1 0 0 ∷ a_row 1 64 0 ∷ [])

unfoldable pub examples : List Example
examples =
    -- 24: event 1 writes byte 64 by its second access, between the init and the read
    record {
      x = of (inits ∷ by 1 (writing 1 0 (1 ∷ []) ∷ writing 1 64 (1 ∷ []) ∷ []) ∷ by 1 (reading 1 64 (0 ∷ []) ∷ []) ∷ []) (a_row 2 64 0 ∷ []);
      comes = record { succ = 6 ∷ 4 ∷ 0 ∷ []; pred = 0 ∷ 1 ∷ 3 ∷ []; rule = some (faulty 24 (Between 2 0 1 64)); bars = []; settled = Orderly };
    }
    -- a bar by (a): event 2 has the range of the read in its second slot
    ∷ record {
      x = of (inits ∷ by 1 (writing 2 64 (1 ∷ []) ∷ []) ∷ by 2 (reading 1 0 (0 ∷ []) ∷ writing 2 64 (2 ∷ []) ∷ []) ∷ by 3 (reading 2 64 (1 ∷ []) ∷ []) ∷ [])
          (a_row 2 0 0 ∷ a_row 3 64 1 ∷ []);
      comes = record { succ = 14 ∷ 8 ∷ 0 ∷ 0 ∷ []; pred = 0 ∷ 1 ∷ 1 ∷ 3 ∷ []; rule = none; bars = (3, (1, 2)) ∷ []; settled = Orderly };
    }
    -- an unsettled pair by the second accesses alone
    ∷ record {
      x = of (inits ∷ by 1 (writing 1 0 (1 ∷ []) ∷ writing 1 64 (1 ∷ []) ∷ []) ∷ by 2 (writing 1 128 (1 ∷ []) ∷ reading 1 64 (0 ∷ []) ∷ []) ∷ []) (a_row 2 64 0 ∷ []);
      comes = record { succ = 6 ∷ 0 ∷ 0 ∷ []; pred = 0 ∷ 1 ∷ 1 ∷ []; rule = none; bars = []; settled = Unsettled 1 2 };
    }
    -- 25: the read's two bytes, of its second access, are from two writes, one of them by a second access
    ∷ record {
      x = of (by 1 (writing 1 64 (1 ∷ 1 ∷ []) ∷ []) ∷ by 2 (writing 1 0 (1 ∷ []) ∷ writing 1 64 (2 ∷ 2 ∷ []) ∷ []) ∷ by 3 (writing 1 128 (1 ∷ []) ∷ reading 1 64 (1 ∷ 2 ∷ []) ∷ []) ∷ [])
          (a_row 2 64 0 ∷ a_row 2 65 1 ∷ []);
      comes = record { succ = 0 ∷ 0 ∷ 0 ∷ []; pred = 0 ∷ 0 ∷ 0 ∷ []; rule = some (faulty 25 (Torn 2 0 1)); bars = []; settled = Unsettled 0 1 };
    }
    -- 21: the byte seen by the second access is not the one written
    ∷ record {
      x = reads_both;
      comes = record { succ = 2 ∷ 0 ∷ []; pred = 0 ∷ 1 ∷ []; rule = some (faulty 21 (OfRow 1 0 64)); bars = []; settled = Orderly };
    }
    ∷ []

abbrev pub Right : Type 0
Right =
    (each (λ (e : Example). steps_of e.x) examples ≡ each (λ (e : Example). e.comes) examples)
    × (each (λ (e : Example). model_of e.x) examples ≡ each (λ (e : Example). e.comes) examples)
    × (any (λ (e : Example). opens e.x) examples ≡ false)

-- what specs/Steps.antt asks of an execution and its tables holds of one whose events all have two accesses
abbrev pub Met : Type 0
Met = Stored reads_both (table_of reads_both) 2 (rows_of reads_both) 2 [] 0
