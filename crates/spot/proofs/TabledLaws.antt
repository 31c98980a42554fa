-- The tables of accesses and rows, filled while a sheet is read. Assumes nothing.
--     tabled_none                                            nothing read
--     tabled_head, tabled_event, tabled_row, tabled_pair     behind one field more
--     after_head, after_event                                behind a field without a fault
--     tabled_shaped                                          the shapes of the events stand in the table
--     few_events                                             the events have a place
--     tabled_sizes                                           the tables keep their lengths
--     event_laid, row_laid                                   an event, a row as the code puts it
--     all_cleared                                            places all zero
--     behind_of, behind_first, rows_of                       the counts before the first row; before the first event; before the first pair
use Prim.Native.Nat.{ℕ, zero, suc, ◌+◌, ◌*◌, ◌%◌, ◌<◌, ◌≤◌}
use mathlib.Core.Path.{◌≡◌, refl, sym, ap, ◌∙◌}
use mathlib.Core.List.{List, ◌++◌}
use native.Mathlib.Omega.{arith}
use native.Mathlib.Nat.{mod-eq_of_lt}
use lib.ListN.{length, get_or, set, drop, replicate, drop_of_length-le}
use lib.Seq.{get_or-set_same, get_or-set_other}
use Rattle.sets.specs.Mask.{slots}
use Rattle.format.specs.declared.Head.{Head}
use Rattle.format.specs.declared.Shape.{Shape}
use Rattle.format.specs.declared.Row.{Row}
use Rattle.format.specs.Field.{tag_at, rest_at}
use Rattle.format.specs.Layout.{agent_of, shape_of, row_gap}
use Rattle.entries.specs.declared.Counts.{Counts}
use Rattle.entries.specs.Entries.{row_no}
use Rattle.faults.proofs.FaultsLaws.{inits_fit}
use Rattle.cells.specs.Walk.{up_to}
use Rattle.tables.specs.Tables.{accesses, columns, shape_in, row_room, putting, putting_row}
use Rattle.row_data.specs.RowData.{laid_shape, data_at, passed, row_put}
use Rattle.lay.specs.Lay.{event_put, event_step, events_put, rows_put}
use Rattle.lay.proofs.LayLaws.{events_none, events_more, events_length, rows_none, rows_more, rows_length}
use Rattle.lay.proofs.CellLaws.{kind_at, mode_at, start_at, width_at, tear_at}
use Rattle.parse.proofs.ParseLaws.{was_none, was_2}
use Rattle.faults.specs.Faults.{view}
use Rattle.spot.specs.Between.{Between, Ready, Tabled, Carried, Shaped, with_head, behind, with_event, with_row, with_rows, with_pair}
use Rattle.spot.proofs.BetweenLaws.{counted_of, event_here}

-- ---- the events

-- two steps that agree below n
below_same : (f g : ℕ → List ℕ → List ℕ) (l : List ℕ) (n : ℕ) → ((i : ℕ) (k : List ℕ) → i < n → f i k ≡ g i k) → up_to f n l ≡ up_to g n l
unfolding up_to
below_same f g l zero h = refl
below_same f g l (suc n) h = h n (up_to f n l) (omega arith) ∙ ap (g n) (below_same f g l n (λ i k b. h i k (omega arith)))

module _ (s : List ℕ) (edition : ℕ) (at : List ℕ) (n p : ℕ) (l : List ℕ) where
  -- no place from n on is looked at
  events_later : events_put s edition at n l ≡ events_put s edition (set at n p) n l
  unfolding events_put
  events_later =
      below_same (event_step s edition at) (event_step s edition (set at n p)) l n
      (λ i k b. ap (λ (z : ℕ). event_put s edition z i k) (sym (get_or-set_other at n i p 0 (λ z. omega arith))))

  events_next : n < length at → (t : List ℕ) → t ≡ events_put s edition at n l → event_put s edition p n t ≡ events_put s edition (set at n p) (n + 1) l
  events_next h t e =
      ap (event_put s edition p n) (e ∙ events_later) ∙ ap (λ (z : ℕ). event_put s edition z n (events_put s edition (set at n p) n l)) (sym (get_or-set_same at n p 0 h))
      ∙ events_more s edition (set at n p) l n

-- as the code puts it
pub event_laid : (s : List ℕ) (edition p n : ℕ) (t t' : List ℕ) (agent : ℕ) (a : Shape) → t' ≡ putting (set t n agent) (2 * n) a
    → agent ≡ agent_of (rest_at s p) → a ≡ shape_of edition (rest_at s p) → t' ≡ event_put s edition p n t
event_laid s edition p n t t' agent a e f g =
    e ∙ ap (λ (i : ℕ). putting (set t n i) (2 * n) a) f ∙ ap (λ (b : Shape). putting (set t n (agent_of (rest_at s p))) (2 * n) b) g

-- where there is none
module _ (s : List ℕ) (x : Counts) (at t l : List ℕ) where
  no_events : (edition : ℕ) → x.events ≡ 0 → events_put s edition at x.events l ≡ l
  no_events edition z = ap (λ (n : ℕ). events_put s edition at n l) z ∙ sym (events_none s edition at l)

  no_rows : x.rows ≡ 0 → rows_put s x at t x.rows l ≡ l
  no_rows z = ap (λ (n : ℕ). rows_put s x at t n l) z ∙ sym (rows_none s x at t l)

pub tabled_none : (s : List ℕ) (x : Counts) (at t q : List ℕ) → x.events ≡ 0 → x.rows ≡ 0 → Tabled s x at t t q q
tabled_none s x at t q e r = record { events = sym (no_events s x at t t x.head.edition e); rows = sym (no_rows s x at t q r) }

module _ (s : List ℕ) (x : Counts) (at t₀ t q₀ q : List ℕ) (h : Tabled s x at t₀ t q₀ q) where
  tabled_head : (d : Head) (next : ℕ) → x.events ≡ 0 → x.rows ≡ 0 → Tabled s (with_head d next) at t₀ t q₀ q
  tabled_head d next e r =
      record {
        events = h.events ∙ no_events s x at t t₀ x.head.edition e ∙ events_none s d.edition at t₀;
        rows = h.rows ∙ no_rows s x at t q₀ r ∙ rows_none s (with_head d next) at t q₀;
      }

  pub tabled_event : (p agent next : ℕ) → x.rows ≡ 0 → x.events < length at
      → Tabled s (with_event x agent next) (set at x.events p) t₀ (event_put s x.head.edition p x.events t) q₀ q
  tabled_event p agent next r l =
      record {
        events = events_next s x.head.edition at x.events p t₀ l t h.events;
        rows = h.rows ∙ no_rows s x at t q₀ r ∙ rows_none s (with_event x agent next) (set at x.events p) (event_put s x.head.edition p x.events t) q₀;
      }

  pub tabled_row : (next : ℕ) → Tabled s (with_row x next) at t₀ t q₀ (row_put s x at t x.rows q)
  unfolding rows_put row_put
  tabled_row next = record { events = h.events; rows = ap (row_put s x at t x.rows) h.rows ∙ rows_more s x at t q₀ x.rows }

  pub tabled_pair : Tabled s (with_pair x) at t₀ t q₀ q
  unfolding rows_put row_put
  tabled_pair = record { events = h.events; rows = h.rows }

  pub tabled_sizes : (length t ≡ length t₀) × (length q ≡ length q₀)
  tabled_sizes =
      (ap length h.events ∙ events_length s x.head.edition at t₀ x.events, ap length h.rows ∙ rows_length s x at t q₀ x.rows)

-- behind a field without a fault
module _ (s : List ℕ) (p last : ℕ) (x : Counts) (at : List ℕ) (r : Ready s p last x at) where
  pub after_head : tag_at s p ≡ 1 → (d : Head) (next : ℕ) (t q : List ℕ) → Carried s x at t q (with_head d next) at t q
  after_head e d next t q t₀ q₀ h =
      let w = was_none s p (view s last x at) r.clean e in
      tabled_head s x at t₀ t q₀ q h d next (r.between.no_events (omega arith)) (r.between.no_rows (omega arith))

  pub after_event : tag_at s p ≡ 2 → (agent next : ℕ) (t t' q : List ℕ) → t' ≡ event_put s x.head.edition p x.events t
      → Carried s x at t q (with_event x agent next) (set at x.events p) t' q
  after_event e agent next t t' q f t₀ q₀ h =
      let w = was_2 s p (view s last x at) r.clean e in
      rw f (tabled_event s x at t₀ t q₀ q h p agent next (r.between.no_rows (omega arith)) (event_here s p last x at r e))

-- ---- the shapes

shape_path : {a b : Shape} → a.kind ≡ b.kind → a.mode ≡ b.mode → a.start ≡ b.start → a.width ≡ b.width → a.tear ≡ b.tear → a ≡ b
shape_path k m s w t = λ i. record { kind = k i; mode = m i; start = s i; width = w i; tear = t i }

pub tabled_shaped : (s : List ℕ) (x : Counts) (at t₀ t q₀ q : List ℕ) → Tabled s x at t₀ t q₀ q → length t₀ ≡ columns → x.events ≤ slots → Shaped s x at t
unfolding shape_in
tabled_shaped s x at t₀ t q₀ q h long few e l =
    let slot : 2 * e % accesses ≡ 2 * e = mod-eq_of_lt (omega arith) in
    ap (shape_in t) slot ∙ ap (λ (z : List ℕ). shape_in z (2 * e)) h.events
    ∙ shape_path
    (kind_at s x.head.edition at t₀ long x.events few e l)
    (mode_at s x.head.edition at t₀ long x.events few e l)
    (start_at s x.head.edition at t₀ long x.events few e l)
    (width_at s x.head.edition at t₀ long x.events few e l)
    (tear_at s x.head.edition at t₀ long x.events few e l)

pub few_events : (s : List ℕ) (p last : ℕ) (x : Counts) (at : List ℕ) → Between s p last x at → x.events ≤ slots
few_events s p last x at b = let i = b.few_inits in let o = b.few_others in omega arith

-- ---- a row

pub row_laid : (s : List ℕ) (x : Counts) (at t : List ℕ) (j : ℕ) (q : List ℕ) (r : Row) → r ≡ row_no s x j
    → putting_row q (j % row_room) r (get_or s (data_at x.head.edition (get_or at r.reader 0) (laid_shape t r.reader) r.address) 0)
    (get_or s (data_at x.head.edition (get_or at r.writer 0) (laid_shape t r.writer) r.address + passed (laid_shape t r.writer)) 0)
    ≡ row_put s x at t j q
unfolding row_put
row_laid s x at t j q r e =
    ap
    (λ (r : Row). putting_row q (j % row_room) r (get_or s (data_at x.head.edition (get_or at r.reader 0) (laid_shape t r.reader) r.address) 0) (get_or s (data_at x.head.edition (get_or at r.writer 0) (laid_shape t r.writer) r.address + passed (laid_shape t r.writer)) 0))
    e

-- ---- the counts

counts_path : (x : Counts) {k a r b p : ℕ} → x.inits ≡ k → x.rows_at ≡ a → x.rows ≡ r → x.pairs_at ≡ b → x.pairs ≡ p
    → x ≡ record { head = x.head; inits = k; events = x.events; rows_at = a; rows = r; pairs_at = b; pairs = p }
counts_path x k a r b p =
    λ i. record { head = x.head; inits = k i; events = x.events; rows_at = a i; rows = r i; pairs_at = b i; pairs = p i }

module _ (s : List ℕ) (p last : ℕ) (x : Counts) (at : List ℕ) (b : Between s p last x at) where
  first_row : last < 3 → x.rows_at ≡ p
  first_row l =
      let e : x.rows_at + 0 * row_gap x.head.edition ≡ p = ap (λ (n : ℕ). x.rows_at + n * row_gap x.head.edition) (sym (b.no_rows l)) ∙ b.rows_end (omega arith) in
      omega arith

  first_pair : last < 4 → x.pairs_at ≡ p
  first_pair l =
      let q = b.no_pairs l in
      let e = b.pairs_end in
      omega arith

  pub behind_of : last < 3 → x ≡ behind x.head x.inits x.events p
  behind_of l = counts_path x refl (first_row l) (b.no_rows l) (first_pair (omega arith)) (b.no_pairs (omega arith))

  pub behind_first : last < 2 → x ≡ behind x.head x.events x.events p
  behind_first l =
      let n = b.no_events l in
      let f = inits_fit s x at (counted_of s p last x at b) in
      counts_path x (omega arith) (first_row (omega arith)) (b.no_rows (omega arith)) (first_pair (omega arith)) (b.no_pairs (omega arith))

  pub rows_of : last < 4 → x ≡ with_rows x x.rows p
  rows_of l = counts_path x refl refl refl (first_pair l) (b.no_pairs l)

-- ---- the places

pub all_cleared : (at : List ℕ) (i : ℕ) → i ≡ slots → length at ≡ slots → replicate i 0 ++ drop i at ≡ replicate slots 0
all_cleared at i e l = rw e (ap (λ (z : List ℕ). replicate slots 0 ++ z) (drop_of_length-le at {i = slots} (omega arith)))
