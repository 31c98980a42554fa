-- The rules 21 to 24 over the tables are the model's. Assumes nothing.
--     found_named                            a rule at the first number that passes, as a search
--     ruled21, ruled22, ruled23, ruled24     each finds what the model finds
use mathlib.Core.Path.{◌≡◌, refl, sym, ap, ◌∙◌, subst}
use mathlib.Core.Bool.{Bool, true, false, cond}
use mathlib.Core.List.{List, Memᴰ}
use mathlib.Core.Option.{none, some}
use Prim.Native.Nat.{ℕ, ◌<◌}
use native.Mathlib.Nat.{mod-eq_of_lt}
use native.Mathlib.Omega.{arith}
use borrow.Author.Tests.{ltb-true, ltb-false}
use lib.Dec.{T, eqb, ltb}
use lib.ListN.{length, get_or}
use Rattle.basis.specs.Test.{◌and◌, non, find, mapped, across, from}
use Rattle.basis.proofs.BoolLaws.{true_T, and_both, amp_and, and_swap}
use Rattle.basis.proofs.ListLaws.{from_elim}
use Rattle.basis.proofs.FindLaws.{find_same, found_each, find_at, find_no, find_firsts}
use Rattle.format.specs.declared.Row.{Row}
use Rattle.format.specs.Shape.{covers, writes}
use Rattle.format.specs.Event.{writes_at, wrote}
use Rattle.format.specs.Execution.{Execution, event}
use Rattle.format.proofs.EventLaws.{writes_at_nobody}
use Rattle.format.proofs.ExecutionLaws.{event_inside}
use Rattle.answer.specs.declared.Names.{Names}
use Rattle.answer.specs.declared.Names.TheVariants.{Row as OfRow, Event as OfEvent, Between}
use Rattle.answer.specs.Rules.{unbreached, breach, named}
use Rattle.sets.specs.Mask.{slots, mem}
use Rattle.sets.proofs.MaskLaws.{mem_and}
use Rattle.cells.specs.First.{first_of, First}
use Rattle.cells.proofs.FirstLaws.{first_of_lem, first_find}
use Rattle.model.specs.Events.{numbers}
use Rattle.model.specs.Rules.{faulty, breaks21, breaks22, breaks23, breaks24, fault21, fault22, fault23, fault24}
use Rattle.tables.specs.Tables.{writes_in, row_in}
use Rattle.tables.proofs.TablesLaws.{reader_slot, writer_slot}
use Rattle.rules.specs.Rules.{unlike_in, cyclic_in, turned_in, between_in, over_in, rule21_in, rule22_in, rule23_in, rule24_in}
use Rattle.front.specs.Tabled.{Tabled, Rowed, Seen, hb_of, Turned, found_of}

module _ (p : ℕ → Bool) (n k : ℕ) (g : ℕ → Names) where
  pub found_named : found_of (named (first_of p n) n (breach k (g (first_of p n)))) ≡ mapped (λ (j : ℕ). faulty k (g j)) (find p (from 0 n))
  unfolding mapped
  found_named = go (ltb (first_of p n) n) ∙ ap (mapped (λ (j : ℕ). faulty k (g j))) (sym (first_find p n))
    where
      go : (b : Bool) → found_of (cond b (breach k (g (first_of p n))) unbreached) ≡ mapped (λ (j : ℕ). faulty k (g j)) (cond b (some (first_of p n)) none)
      go true = refl
      go false = refl

abbrev row_names : Row → Names
row_names r = OfRow r.reader r.writer r.address

module _ (x : Execution) (q : List ℕ) (m : ℕ) (rowed : Rowed x q m) where
  same_bytes : Seen x q m → (j : ℕ) → j < m → unlike_in q j ≡ breaks21 x (row_in q j)
  unfolding unlike_in breaks21
  same_bytes s j h = λ i. non (eqb (s.seen j h i) (s.wrote j h i))

  pub ruled21 : Seen x q m → found_of (rule21_in q m) ≡ fault21 x
  unfolding rule21_in fault21
  ruled21 s =
      found_named (unlike_in q) m 21 (λ (j : ℕ). row_names (row_in q j))
      ∙ ap (mapped (λ (j : ℕ). faulty 21 (row_names (row_in q j)))) (find_same (unlike_in q) (λ (j : ℕ). breaks21 x (row_in q j)) (from 0 m) same)
      ∙ sym (found_each (breaks21 x) (λ (r : Row). faulty 21 (row_names r)) (row_in q) (from 0 m))
      ∙ ap (λ (l : List Row). mapped (λ (r : Row). faulty 21 (row_names r)) (find (breaks21 x) l)) (sym rowed)
    where
      same : (j : ℕ) → Memᴰ j (from 0 m) → unlike_in q j ≡ breaks21 x (row_in q j)
      same j i =
          let k = from_elim m 0 j i in
          let h : j < m = omega arith in
          same_bytes s j h

  pub ruled23 : (succ : List ℕ) → found_of (rule23_in q m succ) ≡ fault23 x (hb_of succ)
  unfolding rule23_in fault23 breaks23 turned_in
  ruled23 succ =
      found_named (turned_in q succ) m 23 (λ (j : ℕ). row_names (row_in q j))
      ∙ sym (found_each (breaks23 (hb_of succ)) (λ (r : Row). faulty 23 (row_names r)) (row_in q) (from 0 m))
      ∙ ap (λ (l : List Row). mapped (λ (r : Row). faulty 23 (row_names r)) (find (breaks23 (hb_of succ)) l)) (sym rowed)

pub ruled22 : (x : Execution) (n : ℕ) → length x.events ≡ n → (succ : List ℕ) → found_of (rule22_in succ n) ≡ fault22 x (hb_of succ)
unfolding rule22_in fault22 numbers breaks22 cyclic_in
ruled22 x n count succ =
    found_named (cyclic_in succ) n 22 (λ (e : ℕ). OfEvent e)
    ∙ ap (λ (k : ℕ). mapped (λ (e : ℕ). faulty 22 (OfEvent e)) (find (λ (e : ℕ). mem (get_or succ e 0) e) (from 0 k))) (sym count)

-- ---- 24

module _ (x : Execution) (t : List ℕ) (n : ℕ) (tb : Tabled x t n) (q : List ℕ) (m : ℕ) (rowed : Rowed x q m) (succ pred : List ℕ) (turned : Turned succ pred) where
  writes_same : (v a : ℕ) → v < slots → writes_in t v a ≡ writes_at (event x v) a
  unfolding writes_in writes_at
  writes_same v a h = let e = tb.shape_at_lem v a h in λ i. covers (sym e i) a and writes (sym e i)

  between_same : (j v : ℕ) → v < slots → between_in t succ pred (row_in q j) v ≡ breaks24 x (hb_of succ) (row_in q j) v
  unfolding between_in breaks24
  between_same j v h =
      let r = row_in q j in
      let i = mod-eq_of_lt (reader_slot q j) in
      let k = mod-eq_of_lt (writer_slot q j) in
      simp (mem_and, amp_and, i, k, writes_same v r.address h, turned v r.reader) (and_swap _ _)

  -- an event that writes is one of the n
  writes_below : (v a : ℕ) → v < slots → writes_in t v a ≡ true → v < n
  writes_below v a h w =
      rw tb.count at
      (event_inside x (λ e. T (writes_at e a)) (λ z. subst T (writes_at_nobody a) z) v (true_T _ (sym (writes_same v a h) ∙ w)))

  module _ (j : ℕ) where
    abbrev v : ℕ
    v = first_of (between_in t succ pred (row_in q j)) slots

    fst : First (between_in t succ pred (row_in q j)) slots v
    fst = first_of_lem (between_in t succ pred (row_in q j)) slots

    over_at : over_in t q succ pred j ≡ true → find (λ (d : ℕ). breaks24 x (hb_of succ) (row_in q j) d) (from 0 n) ≡ some v
    unfolding over_in between_in
    over_at g =
        let l = ltb-true v slots g in
        let hit = fst.passes l in
        let k = writes_below v (row_in q j).address l (and_both _ (writes_in t v (row_in q j).address) hit).1 in
        find_at (λ (d : ℕ). breaks24 x (hb_of succ) (row_in q j) d) n v k (sym (between_same j v l) ∙ hit) (λ d z. sym (between_same j d (omega arith)) ∙ fst.least d z)

    over_not : over_in t q succ pred j ≡ false → find (λ (d : ℕ). breaks24 x (hb_of succ) (row_in q j) d) (from 0 n) ≡ none
    unfolding over_in
    over_not g =
        let l = ltb-false v slots g in
        let y = tb.few in
        find_no (λ (d : ℕ). breaks24 x (hb_of succ) (row_in q j) d) n (λ d z. sym (between_same j d (omega arith)) ∙ fst.least d (omega arith))

  pub ruled24 : found_of (rule24_in t q m succ pred) ≡ fault24 x (hb_of succ)
  unfolding rule24_in fault24 numbers
  ruled24 =
      found_named (over_in t q succ pred) m 24 (λ (j : ℕ). Between (row_in q j).reader (row_in q j).writer (first_of (between_in t succ pred (row_in q j)) slots) (row_in q j).address)
      ∙ sym (find_firsts (row_in q) (λ (p : Row × ℕ). breaks24 x (hb_of succ) p.0 p.1) (λ (p : Row × ℕ). faulty 24 (Between p.0.reader p.0.writer p.1 p.0.address))
      (from 0 n) (over_in t q succ pred) (λ (j : ℕ). first_of (between_in t succ pred (row_in q j)) slots) (from 0 m) (λ j k. over_at j) (λ j k. over_not j))
      ∙ ap (λ (l : List Row). mapped (λ (p : Row × ℕ). faulty 24 (Between p.0.reader p.0.writer p.1 p.0.address)) (find (λ (p : Row × ℕ). breaks24 x (hb_of succ) p.0 p.1) (across l (from 0 n)))) (sym rowed)
      ∙ ap (λ (k : ℕ). mapped (λ (p : Row × ℕ). faulty 24 (Between p.0.reader p.0.writer p.1 p.0.address)) (find (λ (p : Row × ℕ). breaks24 x (hb_of succ) p.0 p.1) (across x.rows (from 0 k)))) (sym tb.count)
