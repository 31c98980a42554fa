-- The loops over events and over rows, which take fields that pass every test. Assumes nothing.
--     growing_start, growing_reach, growing_few, growing_next, growing_end      over events
--     head_left, init_left, other_left, row_left                                what is left through all steps
--     ended, failed, inits_kept, others_kept                                what is left
--     row_took                                                                  a row
--     rowing_start, rowing_same, rowing_took, rowing_few, rowing_next, rowing_left, rowing_end     over rows
use Prim.Native.Nat.{ℕ, ◌+◌, ◌*◌, ◌%◌, ◌<◌, ◌≤◌}
use mathlib.Core.Path.{◌≡◌, refl, sym, ap, ◌∙◌, subst}
use mathlib.Core.Bool.{Bool, true, false, cond}
use mathlib.Core.List.{List}
use native.Mathlib.Omega.{arith}
use native.Mathlib.Nat.{mod-eq_of_lt}
use borrow.Author.Tests.{leb-true, eqb-true, ltb-true, ltb-false, le-ltb}
use lib.Dec.{eqb, leb, ltb}
use lib.ListN.{length, get_or, length-set}
use Rattle.basis.specs.Test.{◌and◌}
use Rattle.basis.proofs.BoolLaws.{by_bool, and_both, and_fails, and_false}
use Rattle.sets.specs.Mask.{slots}
use Rattle.format.specs.declared.Head.{Head}
use Rattle.format.specs.declared.Shape.{Shape}
use Rattle.format.specs.declared.Row.{Row}
use Rattle.format.specs.Shape.{covers, reads, writes}
use Rattle.format.specs.Limits.{max_bytes}
use Rattle.format.specs.Field.{next_at, rest_at}
use Rattle.format.specs.Layout.{row_bytes, row_of}
use Rattle.content.specs.Content.{within}
use Rattle.content.proofs.ContentLaws.{within_holds, within_elim}
use Rattle.entries.specs.declared.Counts.{Counts}
use Rattle.entries.specs.Entries.{events_in, row_no}
use Rattle.faults.specs.Faults.{front_bytes, PlainEvent, head_test}
use Rattle.tables.specs.Tables.{row_room, putting_row}
use Rattle.row_data.specs.RowData.{laid_shape, data_at, passed, row_put}
use Rattle.row_data.proofs.RowDataLaws.{row_length}
use Rattle.lay.specs.Lay.{event_put}
use Rattle.take_row.specs.Taken.{row_here, known_test, join_test, rise_test, reader_shape, writer_shape, row_test, row_taken, TakenRow}
use Rattle.spot.specs.declared.Tally.{Tally}
use Rattle.spot.specs.declared.Spot.{Spot}
use Rattle.spot.specs.Between.{Turn, Tallied, Stands, Carried, Shaped, behind, with_rows}
use Rattle.plain.specs.Fields.{init_next, other_next, row_next}
use Rattle.plain.specs.steps.Growing.{Grown, TakenEvent, PlainRow, KnownRow, PlainRowPut, Growing, Rowing, BeginLeft, InitsLeft, EventsLeft, RowsLeft}
use Rattle.spot.proofs.BetweenLaws.{counted_of}
use Rattle.spot.proofs.TallyLaws.{tally_room}
use Rattle.plain.proofs.PlainLaws.{plain_reach, plain_few, plain_here, plain_next, plain_tally, row_plain, rises_told, row_tested, row_reach, row_room_lem, row_next_lem}
use Rattle.spot.proofs.TabledLaws.{tabled_event, tabled_row, row_laid, rows_of, few_events}

-- ---- over events

-- from where the reader stands
pub growing_start : (s : List ℕ) (z : Spot) (i : ℕ) (at t : List ℕ) → Stands s z at → within 1 2 z.last ≡ true
    → z.x ≡ behind z.x.head i z.x.events z.p
    → Growing s z.x.head i z.x.events z.p at t i z.x.events z.t z.last z.p at t
growing_start s z i at t h w e =
    record {
      turn = subst (λ (y : Counts). Turn s z.p z.last y at) e h.turn;
      early = w;
      tallied = subst (λ (y : Counts). Tallied (events_in s y at) z.t) e h.tallied;
      carried = λ q t₀ q₀ g. g;
      size = refl;
    }

module _ (s : List ℕ) (h : Head) (i₀ n₀ p₀ : ℕ) (at₀ t₀ : List ℕ) (i n : ℕ) (k : Tally) (last p : ℕ) (at t : List ℕ)
    (g : Growing s h i₀ n₀ p₀ at₀ t₀ i n k last p at t) where
  growing_room : k.bytes < max_bytes * 2
  growing_room = tally_room s p last (behind h i n p) at g.turn.between k g.tallied

  pub growing_end : (z : Spot) → z.x ≡ behind h i₀ n₀ p₀ → Grown s z at₀ t₀ (record { p = p; last = last; x = behind h i n p; t = k }) at t
  growing_end z e =
      record {
        stands = record { turn = g.turn; tallied = g.tallied };
        carried = λ q. subst (λ (y : Counts). Carried s y at₀ t₀ q (behind h i n p) at t q) (sym e) (g.carried q);
      }

  module _ (b : Bool) (e : PlainEvent s p (behind h i n p) at b) where
    pub growing_reach : next_at s p ≤ max_bytes
    growing_reach = plain_reach s p last (behind h i n p) at g.turn g.early b e

    pub growing_few : (p + front_bytes ≤ length s) × (n < slots) × (length at ≡ slots) × (k.bytes < max_bytes * 2)
    growing_few = (e.front, (plain_few s p last (behind h i n p) at g.turn g.early b e).0, g.turn.between.size, growing_room)

    pub growing_next : (agent : ℕ) → eqb agent 0 ≡ b → p < length s → (k' : Tally) (at' t' : List ℕ) → TakenEvent s h.edition p n k at t k' at' t'
        → Growing s h i₀ n₀ p₀ at₀ t₀ (cond (eqb agent 0) (i + 1) i) (n + 1) k' 2 (next_at s p) at' t'
    growing_next agent a l k' at' t' o =
        rw (o.place, o.table)
        (record {
          turn = plain_next s p last (behind h i n p) at g.turn g.early b e agent a l;
          early = within_holds 1 2 2 (omega arith) (omega arith);
          tallied = plain_tally s p last (behind h i n p) at g.turn g.early b e k k' g.tallied o.tally o.small;
          carried = λ q y z f. tabled_event s (behind h i n p) at y t z q (g.carried q y z f) p agent (next_at s p) refl (plain_here s p last (behind h i n p) at g.turn g.early b e);
          size = put_length ∙ g.size;
        })
      where
        put_length : length (event_put s h.edition p n t) ≡ length t
        put_length = simp length-set

-- ---- a row

-- what passes the tests of a row has no fault, and is put as the sheet's row
module _ (s : List ℕ) (p last : ℕ) (x : Counts) (at t : List ℕ) (turn : Turn s p last x at) (low : last < 4) (shaped : Shaped s x at t) (test : row_test s p x t ≡ true) where
  abbrev r : Row
  r = row_here s p x

  abbrev a : Shape
  a = reader_shape t r

  abbrev b : Shape
  b = writer_shape t r

  few : x.events ≤ slots
  few = few_events s p last x at turn.between

  room : x.events ≤ length at
  room = (counted_of s p last x at turn.between).room

  rest : (known_test s p x r and (join_test r a b and rise_test s p x r)) ≡ true
  rest = (and_both (leb (p + 6) (length s)) _ test).1

  front : p + 6 ≤ length s
  front = leb-true _ _ (and_both (leb (p + 6) (length s)) _ test).0

  known : KnownRow s p x r
  unfolding known_test
  known =
      let k = and_both _ _ (and_both (known_test s p x r) _ rest).0 in
      let w = and_both _ _ k.0 in
      let h = and_both _ _ w.0 in
      let e = and_both _ _ w.1 in
      record { tag = h.0; long = eqb-true _ _ h.1; reader = ltb-true _ _ e.0; writer = ltb-true _ _ e.1; room = ltb-true _ _ k.1 }

  joined : join_test r a b ≡ true
  joined = (and_both (join_test r a b) _ (and_both (known_test s p x r) _ rest).1).0

  reader_slot : r.reader % slots ≡ r.reader
  reader_slot = mod-eq_of_lt (let k = known.reader in let f = few in omega arith)

  writer_slot : r.writer % slots ≡ r.writer
  writer_slot = mod-eq_of_lt (let k = known.writer in let f = few in omega arith)

  plain : PlainRow s p x at
  unfolding join_test
  plain =
      let j = and_both (covers a r.address and reads a) _ joined in
      let w = and_both _ _ j.1 in
      row_plain s p x at room front known.tag known.long
      (row_tested s p x at room r refl known.reader known.writer
      (subst (λ (c : Shape). (covers c r.address and reads c) ≡ true) (ap (laid_shape t) reader_slot ∙ shaped r.reader known.reader) j.0)
      (subst (λ (c : Shape). (covers c r.address and writes c) ≡ true) (ap (laid_shape t) writer_slot ∙ shaped r.writer known.writer) w.0)
      w.1
      (sym (rises_told s p x (turn.between.rows_end low) r) ∙ (and_both (join_test r a b) _ (and_both (known_test s p x r) _ rest).1).1))

  further : next_at s p ≡ p + 6
  unfolding row_bytes
  further = let l = known.long in omega arith

  this_row : r ≡ row_no s x x.rows
  this_row = ap (λ (n : ℕ). row_of x.head.edition (rest_at s n)) (sym (turn.between.rows_end low))

  taken_same : (q : List ℕ) → row_taken s p x at t q ≡ row_put s x at t x.rows q
  taken_same q =
      ap
      (λ (e : ℕ). putting_row q (x.rows % row_room) r (get_or s (data_at x.head.edition (get_or at e 0) (laid_shape t e) r.address) 0) (get_or s (data_at x.head.edition (get_or at (r.writer % slots) 0) b r.address + passed b) 0))
      reader_slot
      ∙ ap
      (λ (w : ℕ). putting_row q (x.rows % row_room) r (get_or s (data_at x.head.edition (get_or at r.reader 0) (laid_shape t r.reader) r.address) 0) (get_or s (data_at x.head.edition (get_or at w 0) (laid_shape t w) r.address + passed (laid_shape t w)) 0))
      writer_slot
      ∙ row_laid s x at t x.rows q r this_row

  pub row_took : (q q' : List ℕ) → q' ≡ row_taken s p x at t q → PlainRowPut s p x at t q q'
  row_took q q' h = record { plain = plain; next = further; put = h ∙ taken_same q }

-- ---- over rows

pub rowing_start : (s : List ℕ) (z : Spot) (at t q : List ℕ) → Stands s z at → Shaped s z.x at t → z.last ≡ 2
    → Rowing s z.x at t z.t z.x.rows z.p q z.x.rows z.last z.p q
rowing_start s z at t q h f e =
    record {
      turn = subst (λ (y : Counts). Turn s z.p z.last y at) (rows_of s z.p z.last z.x at h.turn.between (omega arith)) h.turn;
      early = rw e (within_holds 1 3 2 (omega arith) (omega arith));
      tallied = h.tallied;
      shaped = f;
      carried = λ t₀ q₀ g. g;
      size = refl;
    }

module _ (s : List ℕ) (x : Counts) (at t : List ℕ) (k : Tally) (n₀ p₀ : ℕ) (q₀ : List ℕ) (n last p : ℕ) (q : List ℕ)
    (g : Rowing s x at t k n₀ p₀ q₀ n last p q) where
  -- a field that is left, and one that is taken
  pub rowing_same : (y : Bool) (q' : List ℕ) → TakenRow s p (with_rows x n p) at t q y q' → y ≡ false → q' ≡ q
  rowing_same y q' k e = k.table ∙ ap (λ (c : Bool). cond c (row_taken s p (with_rows x n p) at t q) q) e

  pub rowing_took : (y : Bool) (q' : List ℕ) → TakenRow s p (with_rows x n p) at t q y q' → y ≡ true → PlainRowPut s p (with_rows x n p) at t q q'
  rowing_took y q' k e =
      row_took s p last (with_rows x n p) at t g.turn (let w = within_elim 1 3 last g.early in omega (arith, w.1)) g.shaped (sym k.is ∙ e) q q'
      (k.table ∙ ap (λ (c : Bool). cond c (row_taken s p (with_rows x n p) at t q) q) e)

  pub rowing_end : (z : Spot) → z.x ≡ with_rows x n₀ p₀
      → Stands s (record { p = p; last = last; x = with_rows x n p; t = k }) at × Carried s z.x at t q₀ (with_rows x n p) at t q
  rowing_end z e =
      (record { turn = g.turn; tallied = g.tallied }, subst (λ (y : Counts). Carried s y at t q₀ (with_rows x n p) at t q) (sym e) g.carried)

  pub rowing_left : (q' : List ℕ) → q' ≡ q → (z : Spot) → z.x ≡ with_rows x n₀ p₀
      → Stands s (record { p = p; last = last; x = with_rows x n p; t = k }) at × Carried s z.x at t q₀ (with_rows x n p) at t q'
  rowing_left q' h z e = rw h (rowing_end z e)

  module _ (q' : List ℕ) (e : PlainRowPut s p (with_rows x n p) at t q q') where
    pub rowing_few : n < max_bytes
    rowing_few = row_room_lem s p last (with_rows x n p) at g.turn g.early e.plain

    pub rowing_reach : p + 6 ≤ max_bytes
    rowing_reach = let r = row_reach s p last (with_rows x n p) at g.turn g.early e.plain in let f = e.next in omega arith

    pub rowing_next : p < length s → Rowing s x at t k n₀ p₀ q₀ (n + 1) 3 (p + 6) q'
    rowing_next l =
        record {
          turn = subst (λ (m : ℕ). Turn s m 3 (with_rows x (n + 1) m) at) e.next (row_next_lem s p last (with_rows x n p) at g.turn g.early e.plain l);
          early = within_holds 1 3 3 (omega arith) (omega arith);
          tallied = g.tallied;
          shaped = g.shaped;
          carried = λ y z f. rw e.put (tabled_row s (with_rows x n p) at y t z q (g.carried y z f) (p + 6));
          size = ap length e.put ∙ row_length s (with_rows x n p) at t n q ∙ g.size;
        }

-- ---- what is left

-- at the end of the sheet, and where a test fails
pub ended : (s : List ℕ) (p : ℕ) (b : Bool) → length s ≤ p → (ltb p (length s) and b) ≡ false
ended s p b h = and_fails _ _ (le-ltb p (length s) h)

pub failed : (a b : Bool) → b ≡ false → (a and b) ≡ false
failed a b e = ap (λ (c : Bool). a and c) e ∙ and_false a

-- where nothing was taken
pub inits_kept : (s : List ℕ) (x : Counts) (h : Head) (i n₀ p₀ n p : ℕ) (at₀ at : List ℕ) → x ≡ behind h i n₀ p₀ → p ≡ p₀ → n ≡ n₀ → at ≡ at₀
    → init_next s p (behind h i n p) at ≡ init_next s p₀ x at₀
inits_kept s x h i n₀ p₀ n p at₀ at ex ep en ea = rw (ex, ep, en, ea) refl

pub others_kept : (s : List ℕ) (x : Counts) (n p p₀ : ℕ) → x ≡ with_rows x x.rows p₀ → p ≡ p₀ → n ≡ x.rows
    → other_next s p (with_rows x n p) ≡ other_next s p₀ x
others_kept s x n p p₀ ex ep en =
    ap (λ (k : ℕ). other_next s k (with_rows x n k)) ep ∙ ap (λ (k : ℕ). other_next s p₀ (with_rows x k p₀)) en ∙ ap (other_next s p₀) (sym ex)

-- through the steps
pub head_left : {s t : List ℕ} {b f e r : Spot} {at at' : List ℕ} → BeginLeft s b → InitsLeft s b f at → EventsLeft s f at e at' → RowsLeft s t e r → r.last ≡ 0
    → head_test s ≡ false
head_left g i h k z = let u = k.early (omega (arith, z)) in g.no_head_lem (i.first (h.first (sym (ap (λ (z : Spot). z.last) u) ∙ z)))

pub init_left : {s t : List ℕ} {b f e r : Spot} {at at' : List ℕ} → InitsLeft s b f at → EventsLeft s f at e at' → RowsLeft s t e r → r.last ≡ 1
    → init_next s r.p r.x at' ≡ false
init_left {s} {t} {b} {f} {e} {r} {at} {at'} i h k z =
    let u = k.early (omega (arith, z)) in
    let v = h.kept (sym (ap (λ (z : Spot). z.last) u) ∙ z) in
    ap (λ (z : Spot). init_next s z.p z.x at') u ∙ v.1 ∙ i.no_init v.0

pub row_left : {s t : List ℕ} {b f e r : Spot} {at at' : List ℕ} → BeginLeft s b → InitsLeft s b f at → EventsLeft s f at e at' → RowsLeft s t e r
    → within 2 3 r.last ≡ true → row_next s r.p r.x t ≡ false
row_left {s} {t} {b} {f} {e} {r} g i h k w = k.no_row (within_elim 2 3 r.last w).0 (h.low (i.low g.low))

pub other_left : {s t : List ℕ} {f e r : Spot} {at at' : List ℕ} → EventsLeft s f at e at' → RowsLeft s t e r → within 1 2 r.last ≡ true
    → other_next s r.p r.x ≡ false
other_left {s} {t} {f} {e} {r} {at} {at'} h k w = by_bool (ltb r.last 2) early late
  where
    early : ltb r.last 2 ≡ true → other_next s r.p r.x ≡ false
    early l =
        let g = k.early (ltb-true r.last 2 l) in
        ap (λ (z : Spot). other_next s z.p z.x) g ∙ h.no_other (subst (λ (z : Spot). within 1 2 z.last ≡ true) g w)

    late : ltb r.last 2 ≡ false → other_next s r.p r.x ≡ false
    late l =
        let v = within_elim 1 2 r.last w in
        let u = ltb-false r.last 2 l in
        let g = k.kept (omega (arith, v.1, u)) in
        g.1 ∙ h.no_other (let z = g.0 in within_holds 1 2 e.last (omega (arith, z)) (omega (arith, z)))
