-- Where the reader of a sheet stands between two fields, and what it means. `Tally` and `Spot` are the source's own structs. Laws: proofs/BetweenLaws.antt,
-- TallyLaws.antt, TabledLaws.antt.
--     blank_counts, blank_places      before the first field, and beside a refusal
--     Between                       what holds of the counts and places at place p
--     Ready, Advanced               a field without a fault is at hand; it has been taken
--     Reached                       the state behind fields without a fault
--     Turn                          the whole answer is the answer from here
--     tally_with, Tallied, Stands    a tally with one event more; of the events; where the reader stands
--     Tabled, Carried               the tables hold the events and rows so far; they do so afterwards
--     Shaped                        the shapes of the events stand in the table of accesses
--     with_head to with_pair          the counts behind a field
--     Through                       the fields are through
-- Assumes nothing.
use Rattle.std.specs.Prelude.{◌≡◌, cond, List, ℕ, suc, ◌+◌, ◌-◌, ◌*◌, ◌<◌, ◌≤◌, eqb, ltb, length, get_or, drop, replicate}
use Rattle.format.specs.declared.Head.{Head}
use Rattle.sets.specs.Mask.{slots, mem, insert}
use Rattle.format.specs.Limits.{max_bytes, max_inits, max_others}
use Rattle.format.specs.Event.{Event}
use Rattle.format.specs.Execution.{inits, no_head}
use Rattle.format.specs.Field.{tag_at, next_at, rest_at, field_place}
use Rattle.format.specs.Layout.{shape_of, row_gap, pair_gap}
use Rattle.spot.specs.declared.Tally.{Tally}
use Rattle.spot.specs.declared.Spot.{Spot}
use Rattle.parse.specs.Parse.{State, blank, fault_at, after, appears, finish, fields_from, parse}
use Rattle.entries.specs.declared.Counts.{Counts}
use Rattle.entries.specs.Entries.{events_in}
use Rattle.lacking.specs.Bytes.{read_width, read_bytes}
use Rattle.faults.specs.Faults.{view}
use Rattle.row_data.specs.RowData.{laid_shape}
use Rattle.lay.specs.Lay.{events_put, rows_put}

-- before the first field, and beside a refusal
abbrev pub blank_counts : Counts
blank_counts = record { head = no_head; inits = 0; events = 0; rows_at = 0; rows = 0; pairs_at = 0; pairs = 0 }

abbrev pub blank_places : List ℕ
blank_places = replicate slots 0

-- at place p, behind a field with the tag `last` (0 for none)
pub record Between (s : List ℕ) (p last : ℕ) (x : Counts) (at : List ℕ) : Type 0 where
  pub size : length at ≡ slots
  pub few_inits : x.inits ≤ max_inits
  pub few_others : x.events ≤ x.inits + max_others
  pub inits : x.inits ≡ inits (events_in s x at)
  pub unused : drop x.events at ≡ replicate (slots - x.events) 0
  pub no_events : last < 2 → x.events ≡ 0
  pub no_rows : last < 3 → x.rows ≡ 0
  pub no_pairs : last < 4 → x.pairs ≡ 0
  pub rows_end : last < 4 → x.rows_at + x.rows * row_gap x.head.edition ≡ p
  pub pairs_end : x.pairs_at + x.pairs * pair_gap ≡ p
  pub start : last ≡ 0 → p ≡ 0
  pub here : 0 < last → p ≡ field_place s (suc (x.events + x.rows + x.pairs))
  pub places : (e : ℕ) → e < x.events → get_or at e 0 ≡ field_place s (suc e)
  pub rows_at_lem : 0 < last → x.rows_at ≡ field_place s (suc x.events)
  pub pairs_at_lem : 0 < last → x.pairs_at ≡ field_place s (suc (x.events + x.rows))

pub record Ready (s : List ℕ) (p last : ℕ) (x : Counts) (at : List ℕ) : Type 0 where
  pub between : Between s p last x at
  pub short : length s ≤ max_bytes
  pub clean : fault_at s p (view s last x at) ≡ 0

pub record Advanced (s : List ℕ) (p last : ℕ) (x : Counts) (at : List ℕ) (y : Counts) (at' : List ℕ) : Type 0 where
  pub between : Between s (next_at s p) (tag_at s p) y at'
  pub seen : view s (tag_at s p) y at' ≡ after s p (view s last x at)

-- the state at place p, behind fields without a fault
pub data Reached (s : List ℕ) : ℕ → State → Type 0 where
  at_first : Reached s 0 blank
  one_more : {p : ℕ} {st : State} → Reached s p st → fault_at s p st ≡ 0 → Reached s (next_at s p) (after s p st)

-- the loop's invariant: the whole answer is the answer from here, with fuel enough
pub record Turn (s : List ℕ) (p last : ℕ) (x : Counts) (at : List ℕ) : Type 0 where
  pub fuel : ℕ
  pub goes : parse s ≡ fields_from s (suc fuel) p (view s last x at)
  pub enough : length s ≤ fuel + p
  pub within_s : p ≤ length s
  pub short : length s ≤ max_bytes
  pub between : Between s p last x at
  pub reached : Reached s p (view s last x at)

-- with one event more
abbrev pub tally_with : Tally → Event → Tally
tally_with t d =
    record { bytes = t.bytes + read_width d.accesses; agents = cond (ltb d.agent slots) (insert t.agents d.agent) t.agents }

-- the tally is that of the events
pub record Tallied (events : List Event) (t : Tally) : Type 0 where
  pub bytes : t.bytes ≡ read_bytes events
  pub small : t.bytes ≤ length events * 255
  pub agents : (a : ℕ) → a < slots → mem t.agents a ≡ appears events a

pub record Stands (s : List ℕ) (q : Spot) (at : List ℕ) : Type 0 where
  pub turn : Turn s q.p q.last q.x at
  pub tallied : Tallied (events_in s q.x at) q.t

-- the tables t and q, which held t₀ and q₀ at first, hold the events and rows so far
pub record Tabled (s : List ℕ) (x : Counts) (at t₀ t q₀ q : List ℕ) : Type 0 where
  pub events : t ≡ events_put s x.head.edition at x.events t₀
  pub rows : q ≡ rows_put s x at t x.rows q₀

-- what they held of the counts x and places at, they hold of y and at'
abbrev pub Carried : List ℕ → Counts → List ℕ → List ℕ → List ℕ → Counts → List ℕ → List ℕ → List ℕ → Type 0
Carried s x at t q y at' t' q' = (t₀ q₀ : List ℕ) → Tabled s x at t₀ t q₀ q → Tabled s y at' t₀ t' q₀ q'

-- the table has the shape of each event
abbrev pub Shaped : List ℕ → Counts → List ℕ → List ℕ → Type 0
Shaped s x at t = (e : ℕ) → e < x.events → laid_shape t e ≡ shape_of x.head.edition (rest_at s (get_or at e 0))

-- ---- the counts behind a field that ends at `next`

abbrev pub with_head : Head → ℕ → Counts
with_head h next =
    record { head = h; inits = 0; events = 0; rows_at = next; rows = 0; pairs_at = next; pairs = 0 }

-- behind n events, k of them inits
abbrev pub behind : Head → ℕ → ℕ → ℕ → Counts
behind h k n next =
    record { head = h; inits = k; events = n; rows_at = next; rows = 0; pairs_at = next; pairs = 0 }

abbrev pub with_event : Counts → ℕ → ℕ → Counts
with_event x agent next =
    record {
      head = x.head;
      inits = cond (eqb agent 0) (x.inits + 1) x.inits;
      events = x.events + 1;
      rows_at = next;
      rows = 0;
      pairs_at = next;
      pairs = 0;
    }

abbrev pub with_row : Counts → ℕ → Counts
with_row x next =
    record { head = x.head; inits = x.inits; events = x.events; rows_at = x.rows_at; rows = x.rows + 1; pairs_at = next; pairs = 0 }

-- behind n rows
abbrev pub with_rows : Counts → ℕ → ℕ → Counts
with_rows x n next =
    record { head = x.head; inits = x.inits; events = x.events; rows_at = x.rows_at; rows = n; pairs_at = next; pairs = 0 }

abbrev pub with_pair : Counts → Counts
with_pair x =
    record {
      head = x.head;
      inits = x.inits;
      events = x.events;
      rows_at = x.rows_at;
      rows = x.rows;
      pairs_at = x.pairs_at;
      pairs = x.pairs + 1;
    }

-- ---- when the fields are through

pub record Through (s : List ℕ) (last : ℕ) (x : Counts) (at : List ℕ) : Type 0 where
  pub goes : parse s ≡ finish s (view s last x at)
  pub between : Between s (length s) last x at
  pub short : length s ≤ max_bytes
  pub reached : Reached s (length s) (view s last x at)
