-- An execution: what a sheet describes (01, "What is judged": "events, the write behind each byte read, and extra synchronisation").
-- `Head`, `Row` and `Pair` are the source's own structs: edition, agents, size; reader, address, writer; first, second.
--     Execution         head, events, rows, pairs        event x e        event number e
--     with_head x h      x under another head             at_edition n h    a head of another edition
--     inits, others     how many events are inits, are not
--     row_below, pair_below    the orders in which rows and pairs rise
-- Assumes nothing.
use Rattle.std.specs.Prelude.{Bool, List, ℕ, eqb, ltb, get_or}
use Rattle.basis.specs.Test.{◌and◌, ◌or◌, non, number}
use Rattle.format.specs.declared.Head.{Head}
use Rattle.format.specs.declared.Row.{Row}
use Rattle.format.specs.declared.Pair.{Pair}
use Rattle.format.specs.Event.{Event, nobody, is_init}

pub record Execution : Type 0 where
  pub head : Head
  pub events : List Event
  pub rows : List Row
  pub pairs : List Pair

abbrev pub with_head : Execution → Head → Execution
with_head x h = record { head = h; events = x.events; rows = x.rows; pairs = x.pairs }

abbrev pub at_edition : ℕ → Head → Head
at_edition n h = record { edition = n; agents = h.agents; size = h.size }

-- 01: "Events are numbered from 0 as they appear."
unfoldable pub event_no : List Event → ℕ → Event
event_no events e = get_or events e nobody

unfoldable pub event : Execution → ℕ → Event
event x e = event_no x.events e

unfoldable pub inits : List Event → ℕ
inits events = number is_init events

unfoldable pub others : List Event → ℕ
others events = number (λ (e : Event). non (is_init e)) events

-- 01: "rows rise strictly by (reader, address)"
unfoldable pub row_below : Row → Row → Bool
row_below q r = ltb q.reader r.reader or (eqb q.reader r.reader and ltb q.address r.address)

-- 01: "pairs rise strictly"
unfoldable pub pair_below : Pair → Pair → Bool
pair_below q p = ltb q.first p.first or (eqb q.first p.first and ltb q.second p.second)

abbrev pub no_head : Head
no_head = record { edition = 0; agents = 0; size = 0 }

abbrev pub blank_row : Row
blank_row = record { reader = 0; address = 0; writer = 0 }

abbrev pub no_pair : Pair
no_pair = record { first = 0; second = 0 }
