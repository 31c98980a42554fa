-- The lowest event with a read byte that has no row, searched for event by event. Assumes nothing.
--     lacks_no                       event number e has such a byte
--     lacks_at                      event i's one access
--     lacking_found, lacking_more, lacking_none     the search over the events, which has come to i
use Prim.Native.Nat.{ℕ, ◌+◌, ◌≤◌, ◌<◌, min}
use mathlib.Core.Path.{◌≡◌, sym, ap, ◌∙◌}
use mathlib.Core.List.{List}
use mathlib.Core.Bool.{Bool, true, false}
use mathlib.Core.Option.{none, some}
use native.Mathlib.Omega.{arith}
use native.Mathlib.Nat.{zero-add}
use lib.ListN.{length, get_or, drop}
use Rattle.basis.specs.Test.{◌and◌, non, any, find, from}
use Rattle.basis.proofs.BoolLaws.{or_none}
use Rattle.basis.proofs.ListLaws.{from_length, from_at}
use Rattle.basis.proofs.FindLaws.{find_none_left, find_found, find_more}
use Rattle.format.specs.declared.Shape.{Shape}
use Rattle.format.specs.Shape.{reads}
use Rattle.format.specs.Event.{Event}
use Rattle.format.specs.Execution.{event_no}
use Rattle.format.specs.Field.{rest_at}
use Rattle.format.specs.Layout.{shape_of}
use Rattle.parse.specs.Parse.{is_row, lacks, lowest_lacking}
use Rattle.entries.specs.declared.Counts.{Counts}
use Rattle.entries.specs.Entries.{events_in, rows_in, execution}
use Rattle.entries.proofs.EntriesLaws.{events_count, events_capped, event_at_lem}

-- event number e has a read byte without a row
abbrev pub lacks_no : List ℕ → Counts → List ℕ → ℕ → Bool
lacks_no s x at e = lacks (rows_in s x) e (event_no (events_in s x at) e)

module _ (s : List ℕ) (x : Counts) (at : List ℕ) where
  abbrev n : ℕ
  n = min x.events (length at)

  abbrev ed : ℕ
  ed = x.head.edition

  abbrev shape : ℕ → Shape
  shape i = shape_of ed (rest_at s (get_or at i 0))

  pub lacks_at : (i : ℕ) → i < n
      → lacks_no s x at i ≡ (reads (shape i) and any (λ (m : ℕ). non (any (is_row i m) (rows_in s x))) (from (shape i).start (shape i).width))
  unfolding lacks any
  lacks_at i h =
      ap (λ (l : List Event). lacks (rows_in s x) i (event_no l i)) (events_capped s ed x.events at)
      ∙ ap (lacks (rows_in s x) i) (event_at_lem s ed n at i h (omega arith)) ∙ or_none _

  lacking_start : lowest_lacking (execution s x at) ≡ find (lacks_no s x at) (from 0 n)
  unfolding lowest_lacking
  lacking_start =
      ap (λ (m : ℕ). find (lacks_no s x at) (from 0 m)) (ap (λ (l : List Event). length l) (events_capped s ed x.events at) ∙ events_count s ed n at (omega arith))

  module _ (i : ℕ) (e : find (lacks_no s x at) (from 0 n) ≡ find (lacks_no s x at) (drop i (from 0 n))) where
    number : i < n → get_or (from 0 n) i 0 ≡ i
    number h = from_at 0 n i 0 h ∙ zero-add i

    pub lacking_found : i < n → lacks_no s x at i ≡ true → some i ≡ lowest_lacking (execution s x at)
    lacking_found h y =
        sym (lacking_start ∙ find_found (lacks_no s x at) (from 0 n) i 0 e (rw (from_length 0 n) h) (ap (lacks_no s x at) (number h) ∙ y) ∙ ap (λ (j : ℕ). some j) (number h))

    pub lacking_more : i < n → lacks_no s x at i ≡ false → find (lacks_no s x at) (from 0 n) ≡ find (lacks_no s x at) (drop (i + 1) (from 0 n))
    lacking_more h y = find_more (lacks_no s x at) (from 0 n) i 0 e (rw (from_length 0 n) h) (ap (lacks_no s x at) (number h) ∙ y)

    pub lacking_none : n ≤ i → none ≡ lowest_lacking (execution s x at)
    lacking_none h = sym (lacking_start ∙ find_none_left (lacks_no s x at) (from 0 n) i e (rw (from_length 0 n) h))
