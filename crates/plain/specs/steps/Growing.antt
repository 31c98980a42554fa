-- The loops over inits, other events and rows, and what they ask: the contracts of the crate's own functions, no part of what it promises.
--     Grown                         the table of accesses has grown with the events
--     TakenEvent                    an event has been taken into the places, the table and the tally
--     Fitting                       a shape is that of an event that is no init
--     Clear, Lined, FirstTold       no event so far lies at `high` or behind; all are inits; the test of an init
--     PlainRow, PlainRowPut         the field at p is a row without a fault, behind an event or a row; it has been taken
--     KnownRow                      what its first tests say
--     Growing, Rowing               the loops over events and over rows
--     BeginLeft to RowsLeft         what each step leaves
-- Assumes nothing.
use Rattle.std.specs.Prelude.{◌≡◌, Bool, true, false, List, ℕ, ◌+◌, ◌<◌, ◌≤◌, eqb, length, set}
use Rattle.basis.specs.Test.{◌and◌, ◌or◌, any, all}
use Rattle.format.specs.declared.Head.{Head}
use Rattle.format.specs.declared.Shape.{Shape}
use Rattle.format.specs.declared.Row.{Row}
use Rattle.format.specs.Event.{Event, is_init, meets}
use Rattle.format.specs.Field.{tag_at, length_at, next_at, rest_at}
use Rattle.format.specs.Layout.{shape_of, row_bytes}
use Rattle.spot.specs.declared.Tally.{Tally}
use Rattle.spot.specs.declared.Spot.{Spot}
use Rattle.content.specs.Content.{within, kind_fits, stands_first}
use Rattle.entries.specs.declared.Counts.{Counts}
use Rattle.entries.specs.Entries.{event_at, events_in}
use Rattle.faults.specs.Faults.{fault_in, PlainEvent, head_test, init_test}
use Rattle.tables.specs.Tables.{row_room}
use Rattle.row_data.specs.RowData.{row_put}
use Rattle.lay.specs.Lay.{event_put}
use Rattle.plain.specs.Fields.{init_next, other_next, row_next}
use Rattle.spot.specs.Between.{Turn, tally_with, Tallied, Stands, Carried, Shaped, behind, with_rows}

-- while no row is read
pub record Grown (s : List ℕ) (from : Spot) (at t : List ℕ) (to : Spot) (at' t' : List ℕ) : Type 0 where
  pub stands : Stands s to at'
  pub carried : (q : List ℕ) → Carried s from.x at t q to.x at' t' q

pub record TakenEvent (s : List ℕ) (edition p n : ℕ) (k : Tally) (at t : List ℕ) (k' : Tally) (at' t' : List ℕ) : Type 0 where
  pub place : at' ≡ set at n p
  pub table : t' ≡ event_put s edition p n t
  pub tally : k' ≡ tally_with k (event_at s 2 p)
  pub small : k'.bytes ≤ k.bytes + 255

-- the shape of an event that is no init
abbrev pub Fitting : Shape → Type 0
Fitting a = ((eqb a.mode 1 or eqb a.mode 2) and kind_fits a) ≡ true

-- what starts at `high` or behind meets no event
abbrev pub Clear : List Event → ℕ → Type 0
Clear events high = (a : Shape) → high ≤ a.start → any (meets a) events ≡ false

pub record Lined (events : List Event) (high : ℕ) : Type 0 where
  pub firsts : all is_init events ≡ true
  pub clear : Clear events high

-- the field at p is an init that fits where it stands, with room for it
pub record FirstTold (s : List ℕ) (p : ℕ) (x : Counts) (at : List ℕ) (r : Bool) : Type 0 where
  pub is : r ≡ (init_test s p x and stands_first (events_in s x at) (shape_of x.head.edition (rest_at s p)))
  pub clean : r ≡ true → PlainEvent s p x at true

pub record PlainRow (s : List ℕ) (p : ℕ) (x : Counts) (at : List ℕ) : Type 0 where
  pub tag : tag_at s p ≡ 3
  pub clean : (last : ℕ) → within 1 3 last ≡ true → fault_in s p last x at ≡ 0

-- r is the row of the field at p by the field's tag and length, its events stand before it, and it has a place in the table
pub record KnownRow (s : List ℕ) (p : ℕ) (x : Counts) (r : Row) : Type 0 where
  pub tag : eqb (tag_at s p) 3 ≡ true
  pub long : length_at s p ≡ row_bytes x.head.edition
  pub reader : r.reader < x.events
  pub writer : r.writer < x.events
  pub room : x.rows < row_room

pub record PlainRowPut (s : List ℕ) (p : ℕ) (x : Counts) (at t q q' : List ℕ) : Type 0 where
  pub plain : PlainRow s p x at
  pub next : next_at s p ≡ p + 6
  pub put : q' ≡ row_put s x at t x.rows q

-- ---- the loops over events and over rows

-- at p behind n events, i of them inits, since the place p₀ behind n₀ events, i₀ of them inits
pub record Growing (s : List ℕ) (h : Head) (i₀ n₀ p₀ : ℕ) (at₀ t₀ : List ℕ) (i n : ℕ) (k : Tally) (last p : ℕ) (at t : List ℕ) : Type 0 where
  pub turn : Turn s p last (behind h i n p) at
  pub early : within 1 2 last ≡ true
  pub tallied : Tallied (events_in s (behind h i n p) at) k
  pub carried : (q : List ℕ) → Carried s (behind h i₀ n₀ p₀) at₀ t₀ q (behind h i n p) at t q
  pub size : length t ≡ length t₀

-- at p behind n rows, since the place p₀ behind n₀ rows
pub record Rowing (s : List ℕ) (x : Counts) (at t : List ℕ) (k : Tally) (n₀ p₀ : ℕ) (q₀ : List ℕ) (n last p : ℕ) (q : List ℕ) : Type 0 where
  pub turn : Turn s p last (with_rows x n p) at
  pub early : within 1 3 last ≡ true
  pub tallied : Tallied (events_in s x at) k
  pub shaped : Shaped s x at t
  pub carried : Carried s (with_rows x n₀ p₀) at t q₀ (with_rows x n p) at t q
  pub size : length q ≡ length q₀

-- ---- what each step leaves

pub record BeginLeft (s : List ℕ) (to : Spot) : Type 0 where
  pub low : to.last ≤ 1
  pub no_head_lem : to.last ≡ 0 → head_test s ≡ false

pub record InitsLeft (s : List ℕ) (from to : Spot) (at' : List ℕ) : Type 0 where
  pub low : from.last ≤ 1 → to.last ≤ 2
  pub first : to.last ≡ 0 → from.last ≡ 0
  pub no_init : to.last ≡ 1 → init_next s to.p to.x at' ≡ false

-- behind a head alone nothing was taken
pub record EventsLeft (s : List ℕ) (from : Spot) (at : List ℕ) (to : Spot) (at' : List ℕ) : Type 0 where
  pub low : from.last ≤ 2 → to.last ≤ 2
  pub first : to.last ≡ 0 → from.last ≡ 0
  pub kept : to.last ≡ 1 → (from.last ≡ 1) × (init_next s to.p to.x at' ≡ init_next s from.p from.x at)
  pub no_other : within 1 2 to.last ≡ true → other_next s to.p to.x ≡ false

-- behind an event nothing was taken
pub record RowsLeft (s t : List ℕ) (from to : Spot) : Type 0 where
  pub early : to.last < 2 → to ≡ from
  pub kept : to.last ≡ 2 → (from.last ≡ 2) × (other_next s to.p to.x ≡ other_next s from.p from.x)
  pub no_row : 2 ≤ to.last → from.last ≤ 2 → row_next s to.p to.x t ≡ false
