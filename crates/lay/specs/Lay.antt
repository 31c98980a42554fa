-- The tables as they are filled from a sheet. Laws: proofs/LayLaws.antt.
--     event_put, events_put     the event of a field written into its first slot; the first n
--     rows_put                 the first m rows written, each as row_data's row_put says
--     pair_put, pairs_put       one pair written; the first k
--     Layered                 all three tables
-- Assumes nothing.
use Rattle.std.specs.Prelude.{◌≡◌, List, ℕ, ◌*◌, ◌%◌, min, get_or, set}
use Rattle.format.specs.Field.{rest_at}
use Rattle.format.specs.Layout.{agent_of, shape_of}
use Rattle.entries.specs.declared.Counts.{Counts}
use Rattle.entries.specs.Entries.{pair_no}
use Rattle.sets.specs.Mask.{slots}
use Rattle.cells.specs.Walk.{up_to}
use Rattle.tables.specs.Tables.{row_room, putting, pair_room, putting_pair}
use Rattle.row_data.specs.RowData.{row_put}

abbrev pub event_put : List ℕ → ℕ → ℕ → ℕ → List ℕ → List ℕ
event_put s edition p e l = putting (set l e (agent_of (rest_at s p))) (2 * e) (shape_of edition (rest_at s p))

abbrev pub event_step : List ℕ → ℕ → List ℕ → ℕ → List ℕ → List ℕ
event_step s edition at e l = event_put s edition (get_or at e 0) e l

unfoldable pub events_put : List ℕ → ℕ → List ℕ → ℕ → List ℕ → List ℕ
events_put s edition at n l = up_to (event_step s edition at) n l

unfoldable pub rows_put : List ℕ → Counts → List ℕ → List ℕ → ℕ → List ℕ → List ℕ
rows_put s x at t m l = up_to (row_put s x at t) m l

unfoldable pub pair_put : List ℕ → Counts → ℕ → List ℕ → List ℕ
pair_put s x j l = putting_pair l (j % pair_room) (pair_no s x j)

unfoldable pub pairs_put : List ℕ → Counts → ℕ → List ℕ → List ℕ
pairs_put s x k l = up_to (pair_put s x) k l

pub record Layered (s : List ℕ) (x : Counts) (at t t' q q' p p' : List ℕ) : Type 0 where
  pub events : t' ≡ events_put s x.head.edition at (min x.events slots) t
  pub rows : q' ≡ rows_put s x at t' (min x.rows row_room) q
  pub pairs : p' ≡ pairs_put s x (min x.pairs pair_room) p
