-- What is handed over, by the way that it came. Assumes nothing.
--     laid_of                       a whole sheet's counts and places
--     place_found                   the place of the event that lacks a row
--     read_whole                    a whole sheet that was read
use Prim.Native.Nat.{ℕ, ◌<◌, min}
use mathlib.Core.Path.{◌≡◌, ap, ◌∙◌}
use mathlib.Core.List.{List}
use mathlib.Core.Option.{some}
use native.Mathlib.Omega.{arith}
use lib.ListN.{get_or}
use lib.Seq.{get_or-take}
use Rattle.parse.specs.Parse.{refused, whole, lowest_lacking, completed, place_of, finish}
use Rattle.parse.proofs.LackLaws.{lacking_there}
use Rattle.parse.proofs.ParseLaws.{finished_whole}
use Rattle.parse.proofs.PromiseLaws.{promise}
use Rattle.parse.proofs.CountLaws.{rows_few}
use Rattle.entries.specs.declared.Counts.{Counts}
use Rattle.entries.specs.Entries.{execution}
use Rattle.entries.proofs.EntriesLaws.{events_count, rows_count}
use Rattle.faults.specs.Faults.{view, Counted}
use Rattle.sets.specs.Mask.{slots}
use Rattle.tables.specs.Tables.{row_room}
use Rattle.lay.specs.Lay.{events_put, rows_put}
use Rattle.sheet.specs.Handed.{Laid, HandedWhole}
use Rattle.sheet.specs.Filled.{FilledWhole}
use Rattle.spot.specs.Between.{Through, Tabled}

-- what a whole sheet's counts and places are
pub laid_of : (s : List ℕ) (last : ℕ) (x : Counts) (at : List ℕ) → Through s last x at → (last ≡ 0 → ⊥) → Laid s x at
laid_of s last x at t d =
    let b = t.between in
    let f = b.few_inits in
    let o = b.few_others in
    let l : 0 < last = above last d in
    record { size = b.size; few = omega arith; inits = b.inits; places = b.places; unused = b.unused; rows_at = b.rows_at_lem l; pairs_at_lem = b.pairs_at_lem l }
  where
    above : (n : ℕ) → (n ≡ 0 → ⊥) → 0 < n
    above n h = omega arith

-- the event that lacks a row is one of those that have a place
pub place_found : (s : List ℕ) (last : ℕ) (x : Counts) (at : List ℕ) (e : ℕ) → Counted s x at → lowest_lacking (execution s x at) ≡ some e
    → completed (view s last x at) (some e) ≡ refused 11 (place_of 11 (get_or at e 0))
unfolding completed
place_found s last x at e k l =
    let b = lacking_there (execution s x at) e l in
    let c = events_count s x.head.edition x.events at k.room in
    ap (λ (p : ℕ). refused 11 (place_of 11 p)) (get_or-take x.events at e 0 (omega arith))

handed_whole : (s : List ℕ) (last : ℕ) (x : Counts) (at : List ℕ) → Through s last x at → finish s (view s last x at) ≡ whole (execution s x at)
    → HandedWhole s x at
handed_whole s last x at t e =
    record { says = t.goes ∙ e; laid = laid_of s last x at t (λ z. let b = (finished_whole s (view s last x at) (execution s x at) e).tagged in omega arith) }

pub read_whole : (s : List ℕ) (last : ℕ) (x : Counts) (at t t' q q' : List ℕ) → Through s last x at → Tabled s x at t t' q q'
    → finish s (view s last x at) ≡ whole (execution s x at) → FilledWhole s x at t t' q q'
read_whole s last x at t t' q q' h d e =
    let w = handed_whole s last x at h e in
    let f = w.laid.few in
    let c = events_count s x.head.edition x.events at (let z = w.laid.size in omega arith) in
    let r = rows_count s x.head.edition x.rows_at x.rows in
    let k = rows_few (execution s x at) (promise s (execution s x at) w.says) in
    let n : x.events ≡ min x.events slots = omega arith in
    let m : x.rows ≡ min x.rows row_room = omega arith in
    record {
      handed = w;
      events = d.events ∙ ap (λ (i : ℕ). events_put s x.head.edition at i t) n;
      rows = d.rows ∙ ap (λ (i : ℕ). rows_put s x at t' i q) m;
    }
