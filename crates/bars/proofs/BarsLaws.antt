-- The laws of specs/Bars.antt. Assumes nothing.
--     mem_only                              a set that a test lets through
--     bars_none, bars_more, bars_length     the bars, row by row
--     mask_mem                              a row's mask has exactly the events that the row bars
--     bars_back, bars_forth                 what the table has is of a row or was there, and the other way round
--     bars_holds                            the table has exactly the bars of the rows, besides what it had
--     filled_holds                          the same of an empty table and the sets of equal ranges
use mathlib.Core.Path.{◌≡◌, refl, sym, ap, ◌∙◌, subst}
use mathlib.Core.Bool.{Bool, true, false, cond}
use mathlib.Core.Logic.{◌⊎◌, inl, inr, ⊎_elim}
use mathlib.Core.List.{List, Memᴰ}
use Prim.Native.Nat.{ℕ, zero, suc, ◌+◌, ◌*◌, ◌%◌, ◌≤◌, ◌<◌}
use native.Mathlib.Omega.{arith}
use native.Mathlib.Nat.{mod-eq_of_lt}
use native.Mathlib.Decide.{ℕ_discrete}
use borrow.Author.Tests.{eq-eqb, eqb-true}
use lib.Dec.{T, eqb}
use lib.ListN.{length, get_or, replicate, length-replicate, get_or-replicate}
use Rattle.basis.specs.Test.{◌and◌, ◌or◌, non, any, from}
use Rattle.basis.proofs.BoolLaws.{true_T, T_true, and_holds, and_both, or_holds, or_either, or_second, bar_or, amp_and, not_non, and_false, and_swap, bool_ext}
use Rattle.basis.proofs.ListLaws.{from_mem, from_elim}
use Rattle.basis.proofs.LoopLaws.{any_elim, any_intro}
use Rattle.format.specs.declared.Shape.{Shape}
use Rattle.format.specs.declared.Row.{Row}
use Rattle.format.specs.Shape.{sc, both_sc}
use Rattle.sets.specs.Mask.{mem, Has, remove}
use Rattle.sets.proofs.MaskLaws.{mem_and, mem_or, mem_empty, mem_remove}
use Rattle.sets.specs.Mask.{slots}
use Rattle.cells.specs.Walk.{up_to}
use Rattle.cells.specs.Cells.{spread}
use Rattle.cells.proofs.WalkLaws.{up_to_more}
use Rattle.cells.proofs.CellsLaws.{spread_length, spread_elim, spread_old, spread_new}
use Rattle.tables.specs.Tables.{slot_in, row_in}
use Rattle.tables.proofs.TablesLaws.{slot_lt, reader_slot, writer_slot}
use Rattle.alike.specs.Ranges.{equals_in}
use Rattle.alike.proofs.RangesLaws.{equals_mem}
use Rattle.bars.specs.Bars.{reasons_in, mask_in, add_in, bars_in, filled_in, reasons, row_bars_in}

module _ (t eq succ pred q : List ℕ) (bars : List ℕ) where
  pub bars_none : bars ≡ bars_in t eq succ pred q 0 bars
  unfolding bars_in up_to
  bars_none = refl

  pub bars_more : (j : ℕ) → add_in t eq succ pred (row_in q j) (bars_in t eq succ pred q j bars) ≡ bars_in t eq succ pred q (j + 1) bars
  unfolding bars_in
  bars_more j = sym (up_to_more (λ (i : ℕ). add_in t eq succ pred (row_in q i)) j bars)

  pub bars_length : (n : ℕ) → length (bars_in t eq succ pred q n bars) ≡ length bars
  unfolding bars_in up_to
  bars_length zero = refl
  bars_length (suc j) =
      let r = row_in q j in
      spread_length (mask_in t eq succ pred r) (r.writer % slots) (r.reader % slots) (bars_in t eq succ pred q j bars) ∙ bars_length j

-- ---- a row's mask, event by event

-- a set that a test lets through
pub mem_only : (c : Bool) (m v : ℕ) → mem (cond c m 0) v ≡ (c and mem m v)
unfolding ◌and◌
mem_only true m v = refl
mem_only false m v = mem_empty v

mem_reasons : (a b : Shape) (asA asB : ℕ) (wr : Bool) (before after v : ℕ)
    → mem (reasons_in a b asA asB wr before after) v ≡ reasons a b (mem asA v) (mem asB v) wr (mem before v) (mem after v)
unfolding reasons_in reasons
mem_reasons a b asA asB wr before after v =
    simp (mem_or, bar_or, mem_only, mem_and, amp_and)

-- the events below n, taken out of the sum
reasons_below : (a b : Shape) (l asA asB wr vr wv : Bool) → reasons a b (l and asA) (l and asB) wr vr wv ≡ (l and reasons a b asA asB wr vr wv)
unfolding reasons ◌and◌ ◌or◌
reasons_below a b true asA asB wr vr wv = refl
reasons_below a b false asA asB wr vr wv = simp (and_false (both_sc b a), and_false (wr and sc b), and_false (wr and sc a))

turned : (x y z : Bool) → ((x and y) and z) ≡ (y and z and x)
unfolding ◌and◌
turned true true z = and_swap true z
turned true false z = refl
turned false true z = sym (and_false z)
turned false false z = refl

-- as the machine takes two events out
mem_two : (m r w v : ℕ) → mem (remove (remove m r) w) v ≡ (non (eqb v r) and non (eqb v w) and mem m v)
mem_two m r w v = simp (mem_remove, amp_and, not_non) (turned (mem m v) (non (eqb v r)) (non (eqb v w)))

module _ (t succ pred : List ℕ) (n : ℕ) (few : n ≤ slots) where
  pub mask_mem : (r : Row) (v : ℕ) → r.reader < slots → r.writer < slots → mem (mask_in t (equals_in t n) succ pred r) v ≡ row_bars_in t n succ pred r v
  unfolding mask_in row_bars_in
  mask_mem r v hr hw =
      let i = mod-eq_of_lt hr in
      let j = mod-eq_of_lt hw in
      let a = slot_in t r.reader r.address in
      let b = slot_in t r.writer r.address in
      let x = equals_mem t n few a v (slot_lt t r.reader r.address hr) in
      let y = equals_mem t n few b v (slot_lt t r.writer r.address hw) in
      simp (i, j, mem_two, mem_reasons, x, y, reasons_below)

-- ---- the table of all rows

module _ (t eq succ pred q : List ℕ) (l : List ℕ) (inside : slots * slots ≤ length l) (v w r : ℕ) (v-slot : v < slots) (w-slot : w < slots) where
  -- row j bars v between w and r
  abbrev names : ℕ → Bool
  names j = eqb (row_in q j).reader r and eqb (row_in q j).writer w and mem (mask_in t eq succ pred (row_in q j)) v

  abbrev place : ℕ
  place = v * slots + w

  long : (j : ℕ) → slots * slots ≤ length (bars_in t eq succ pred q j l)
  long j = let z = bars_length t eq succ pred q l j in omega arith

  pub bars_back : (n : ℕ) → Has (get_or (bars_in t eq succ pred q n l) place 0) r → Has (get_or l place 0) r ⊎ ((j : ℕ) × ((j < n) × (names j ≡ true)))
  unfolding bars_in up_to
  bars_back zero h = inl h
  bars_back (suc n) h =
      let p = row_in q n in
      let wr = mod-eq_of_lt (writer_slot q n) in
      let rr = mod-eq_of_lt (reader_slot q n) in
      ⊎_elim
      (λ g. ⊎_elim (λ k. inl k) (λ k. inr (k.0, (omega (arith, k.1.0), k.1.1))) (bars_back n g))
      (λ g. inr (n, (omega arith, and_holds (eqb p.reader r) _ (eq-eqb p.reader r (sym rr ∙ g.1.1)) ∙ and_holds (eqb p.writer w) _ (eq-eqb p.writer w (sym wr ∙ g.1.0)) ∙ g.0)))
      (spread_elim (mask_in t eq succ pred p) (p.writer % slots) (p.reader % slots) (bars_in t eq succ pred q n l) (long n) (omega arith) v w r w-slot h)

  pub bars_forth : (n : ℕ) → Has (get_or l place 0) r ⊎ ((j : ℕ) × ((j < n) × (names j ≡ true))) → Has (get_or (bars_in t eq succ pred q n l) place 0) r
  unfolding bars_in up_to
  bars_forth zero (inl h) = h
  bars_forth zero (inr h) = absurd (omega (arith, h.1.0))
  bars_forth (suc n) c = by c (bars_forth n)
    where
      old : Has (get_or (bars_in t eq succ pred q n l) place 0) r → Has (get_or (spread (bars_in t eq succ pred q n l) (mask_in t eq succ pred (row_in q n)) ((row_in q n).writer % slots) ((row_in q n).reader % slots)) place 0) r
      old h = spread_old (mask_in t eq succ pred (row_in q n)) ((row_in q n).writer % slots) ((row_in q n).reader % slots) (bars_in t eq succ pred q n l) (long n) (omega arith) v w r w-slot h

      new : names n ≡ true → Has (get_or (spread (bars_in t eq succ pred q n l) (mask_in t eq succ pred (row_in q n)) ((row_in q n).writer % slots) ((row_in q n).reader % slots)) place 0) r
      new h =
          let a = and_both (eqb (row_in q n).reader r) _ h in
          let b = and_both (eqb (row_in q n).writer w) _ a.1 in
          spread_new (mask_in t eq succ pred (row_in q n)) ((row_in q n).writer % slots) ((row_in q n).reader % slots) (bars_in t eq succ pred q n l) (long n) (omega arith) v w r w-slot v-slot b.1
          (mod-eq_of_lt (writer_slot q n) ∙ eqb-true (row_in q n).writer w b.0) (mod-eq_of_lt (reader_slot q n) ∙ eqb-true (row_in q n).reader r a.0)

      by : Has (get_or l place 0) r ⊎ ((j : ℕ) × ((j < suc n) × (names j ≡ true)))
          → (Has (get_or l place 0) r ⊎ ((j : ℕ) × ((j < n) × (names j ≡ true))) → Has (get_or (bars_in t eq succ pred q n l) place 0) r)
          → Has (get_or (spread (bars_in t eq succ pred q n l) (mask_in t eq succ pred (row_in q n)) ((row_in q n).writer % slots) ((row_in q n).reader % slots)) place 0) r
      by (inl h) ih = old (ih (inl h))
      by (inr h) ih = at (ℕ_discrete h.0 n)
        where
          at : Dec (h.0 ≡ n) → Has (get_or (spread (bars_in t eq succ pred q n l) (mask_in t eq succ pred (row_in q n)) ((row_in q n).writer % slots) ((row_in q n).reader % slots)) place 0) r
          at (yes e) = new (subst (λ (j : ℕ). names j ≡ true) e h.1.1)
          at (no e) = old (ih (inr (h.0, (omega (arith, h.1.0, e), h.1.1))))

  pub bars_holds : (n : ℕ) → mem (get_or (bars_in t eq succ pred q n l) (v * slots + w) 0) r
      ≡ (mem (get_or l (v * slots + w) 0) r or any (λ (j : ℕ). eqb (row_in q j).reader r and eqb (row_in q j).writer w and mem (mask_in t eq succ pred (row_in q j)) v) (from 0 n))
  bars_holds n =
      bool_ext _ _
      (λ h. ⊎_elim (λ g. or_holds _ _ g) (λ g. or_second _ _ (T_true _ (any_intro names (from 0 n) g.0 (from_mem n 0 g.0 (omega arith) (omega (arith, g.1.0))) (true_T _ g.1.1)))) (bars_back n h))
      (λ h. bars_forth n (⊎_elim (λ g. inl g) (λ g. inr (found (any_elim names (from 0 n) (true_T _ g)))) (or_either _ _ h)))
    where
      found : (j : ℕ) × Memᴰ j (from 0 n) × T (names j) → (j : ℕ) × ((j < n) × (names j ≡ true))
      found g = let k = from_elim n 0 g.0 g.1 in (g.0, (omega (arith, k.1), T_true _ g.2))

-- the whole: an empty table holds the bars of the rows, event by event
module _ (t succ pred q : List ℕ) (n rows : ℕ) where
  abbrev full : List ℕ
  full = filled_in t n succ pred q rows (replicate (slots * slots) 0)

  pub filled_holds : n ≤ slots → (v w r : ℕ) → v < slots → w < slots → mem (get_or full (v * slots + w) 0) r
      ≡ any (λ (j : ℕ). eqb (row_in q j).reader r and eqb (row_in q j).writer w and row_bars_in t n succ pred (row_in q j) v) (from 0 rows)
  unfolding filled_in ◌or◌
  filled_holds few v w r hv hw =
      let long = length-replicate {A = ℕ} (slots * slots) 0 in
      let m : (j : ℕ) → mem (mask_in t (equals_in t n) succ pred (row_in q j)) v ≡ row_bars_in t n succ pred (row_in q j) v = λ j. mask_mem t succ pred n few (row_in q j) v (reader_slot q j) (writer_slot q j) in
      bars_holds t (equals_in t n) succ pred q (replicate (slots * slots) 0) (omega arith) v w r hv hw rows
      ∙ ap (λ (b : Bool). b or any (λ (j : ℕ). eqb (row_in q j).reader r and eqb (row_in q j).writer w and mem (mask_in t (equals_in t n) succ pred (row_in q j)) v) (from 0 rows))
      (ap (λ (x : ℕ). mem x r) (get_or-replicate (slots * slots) (v * slots + w) 0 0 (omega arith)) ∙ mem_empty r)
      ∙ ap (λ (g : ℕ → Bool). any (λ (j : ℕ). eqb (row_in q j).reader r and eqb (row_in q j).writer w and g j) (from 0 rows)) (λ i j. m j i)
