-- Of a sheet that the reader has accepted, the slices that its counts and places give are those of its table. Event by event: the data of a well-formed
-- event is as long as its shape says, and is what was seen and then what was written. Assumes nothing.
--     slices_whole                                      the slices
--     events_long, data_long, rows_long, pairs_long     their lengths
use mathlib.Core.Path.{◌≡◌, refl, sym, ap, ◌∙◌, subst}
use mathlib.Core.List.{List, [], ◌∷◌, ◌++◌, map}
use Prim.Native.Nat.{ℕ, suc, ◌*◌, ◌<◌, ◌≤◌}
use native.Mathlib.Omega.{arith}
use lib.ListN.{length, get_or, take, length-append}
use lib.Seq.{get_or-take, length-take-le}
use Rattle.basis.specs.Test.{each}
use Rattle.format.specs.declared.Head.{Head}
use Rattle.format.specs.Event.{Access}
use Rattle.format.specs.Execution.{event}
use Rattle.format.specs.Field.{rest_at}
use Rattle.format.specs.Layout.{data_bytes, row_bytes, pair_bytes, seen_of, written_of, access_of}
use Rattle.format.proofs.LayoutLaws.{data_whole}
use Rattle.parse.specs.Promise.{WellEvent}
use Rattle.parse.proofs.PromiseLaws.{promise}
use Rattle.entries.specs.declared.Counts.{Counts}
use Rattle.entries.specs.Entries.{event_at, events_on, events_in, execution}
use Rattle.entries.proofs.EntriesLaws.{events_count, event_at_lem, rows_count, pairs_count}
use Rattle.sheet.specs.Handed.{HandedWhole}
use Rattle.encode.specs.Table.{describe, table_of}
use Rattle.encode.specs.Encode.{head_value, row_value, pair_value}
use Rattle.encode.specs.Lent.{description_bytes}
use Rattle.encode.specs.Lend.{eight, data_of, flat, slices_of, five}
use Rattle.encode.proofs.LendLaws.{flat_length}
use Rattle.encode.proofs.WellEventLaws.{well_data}
use Rattle.slices.specs.Sliced.{eight_at, data_bytes_at, events_slice, data_slice, rows_slice, pairs_slice, sum, size_at, data_sum}

-- ---- one event

module _ (s : List ℕ) (h : Head) (p : ℕ) (w : WellEvent h (event_at s h.edition p)) where
  abbrev v : List ℕ
  v = rest_at s p

  is : w.access ≡ access_of h.edition v
  is = let q = w.one_access in cc

  data_here : seen_of h.edition v ++ written_of h.edition v ≡ data_bytes_at s h.edition p
  data_here =
      data_whole h.edition v (subst (λ (a : Access). 1 ≤ a.shape.kind) is w.kind.0) (subst (λ (a : Access). a.shape.kind ≤ 4) is w.kind.1)
      (subst (λ (a : Access). a.shape.kind ≡ 4 → a.shape.width ≡ 0) is (λ k. (w.marker k).2))

  size_here : length (seen_of h.edition v ++ written_of h.edition v) ≡ size_at s h.edition p
  size_here = subst (λ (a : Access). length (a.seen ++ a.written) ≡ data_bytes a.shape) is (well_data h (event_at s h.edition p) w)

  eight_here : eight (describe (event_at s h.edition p)) ≡ eight_at s h.edition p
  unfolding describe
  eight_here = rw size_here refl

  bytes_here : data_of (describe (event_at s h.edition p)) ≡ data_bytes_at s h.edition p
  unfolding describe
  bytes_here = data_here

-- ---- all events

module _ (s : List ℕ) (h : Head) where
  abbrev Good : List ℕ → Type 0
  Good l = (i : ℕ) → i < length l → WellEvent h (event_at s h.edition (get_or l i 0))

  later : (p : ℕ) (l : List ℕ) → Good (p ∷ l) → Good l
  later p l g = λ i b. g (suc i) (omega arith)

  first : (p : ℕ) (l : List ℕ) → Good (p ∷ l) → WellEvent h (event_at s h.edition p)
  first p l g = g 0 (omega arith)

  events_flat : (l : List ℕ) → Good l → flat eight (each describe (map (event_at s h.edition) l)) ≡ flat (eight_at s h.edition) l
  unfolding flat each
  events_flat [] g = refl
  events_flat (p ∷ l) g =
      ap (λ (m : List ℕ). m ++ flat eight (each describe (map (event_at s h.edition) l))) (eight_here s h p (first p l g))
      ∙ ap (λ (m : List ℕ). eight_at s h.edition p ++ m) (events_flat l (later p l g))

  data_flat : (l : List ℕ) → Good l → flat data_of (each describe (map (event_at s h.edition) l)) ≡ flat (data_bytes_at s h.edition) l
  unfolding flat each
  data_flat [] g = refl
  data_flat (p ∷ l) g =
      ap (λ (m : List ℕ). m ++ flat data_of (each describe (map (event_at s h.edition) l))) (bytes_here s h p (first p l g))
      ∙ ap (λ (m : List ℕ). data_bytes_at s h.edition p ++ m) (data_flat l (later p l g))

  data_sum_lem : (l : List ℕ) → Good l → length (flat (data_bytes_at s h.edition) l) ≡ sum (size_at s h.edition) l
  unfolding flat sum
  data_sum_lem [] g = refl
  data_sum_lem (p ∷ l) g =
      let w = first p l g in
      let a = length-append (data_bytes_at s h.edition p) (flat (data_bytes_at s h.edition) l) in
      let b : length (data_bytes_at s h.edition p) ≡ size_at s h.edition p = ap length (sym (data_here s h p w)) ∙ size_here s h p w in
      let c = data_sum_lem l (later p l g) in
      omega arith

-- ---- the sheet

module _ (s : List ℕ) (x : Counts) (at : List ℕ) (w : HandedWhole s x at) where
  fit : x.events ≤ length at
  fit = let a = w.laid.size in let b = w.laid.few in omega arith

  good : Good s x.head (take x.events at)
  unfolding event
  good i b =
      let k : i < x.events = rw (length-take-le x.events at fit) at b in
      let e : i < length (events_in s x at) = rw (events_count s x.head.edition x.events at fit) k in
      rw (get_or-take x.events at i 0 k)
      (subst (WellEvent x.head) (event_at_lem s x.head.edition x.events at i k fit) ((promise s (execution s x at) w.says).events i e))

  pub slices_whole : slices_of (table_of (execution s x at)) ≡ five (head_value x.head) (events_slice s x at) (data_slice s x at) (rows_slice s x) (pairs_slice s x)
  unfolding table_of events_on
  slices_whole = rw (events_flat s x.head (take x.events at) good, data_flat s x.head (take x.events at) good) refl

  pub events_long : length (events_slice s x at) ≡ x.events * description_bytes
  events_long = flat_length (eight_at s x.head.edition) description_bytes (λ _. refl) (take x.events at) ∙ ap (λ (n : ℕ). n * description_bytes) (length-take-le x.events at fit)

  pub data_long : length (data_slice s x at) ≡ data_sum s x at
  data_long = data_sum_lem s x.head (take x.events at) good

  pub rows_long : length (rows_slice s x) ≡ x.rows * row_bytes x.head.edition
  unfolding row_bytes
  rows_long = flat_length (row_value x.head.edition) (row_bytes x.head.edition) (λ _. refl) (execution s x at).rows ∙ ap (λ (n : ℕ). n * row_bytes x.head.edition) (rows_count s x.head.edition x.rows_at x.rows)

  pub pairs_long : length (pairs_slice s x) ≡ x.pairs * pair_bytes
  pairs_long = flat_length pair_value pair_bytes (λ _. refl) (execution s x at).pairs ∙ ap (λ (n : ℕ). n * pair_bytes) (pairs_count s x.pairs_at x.pairs)
