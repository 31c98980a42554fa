-- The masks of direct steps, event by event. Assumes nothing.
--     any_next             one number more
--     grown_mem            masks that each number of a loop adds to
--     owns_mem, rows_mem, pairs_mem      what two events make by themselves; what rows and pairs add
--     steps_mem            from empty masks: steps_in holds exactly the steps that step_in tests
use mathlib.Core.Path.{◌≡◌, sym, ap, ◌∙◌}
use mathlib.Core.Bool.{Bool, cond}
use mathlib.Core.List.{List}
use Prim.Native.Nat.{ℕ, zero, suc, ◌%◌, ◌<◌, ◌≤◌}
use native.Mathlib.Nat.{mod-eq_of_lt}
use native.Mathlib.Omega.{arith}
use native.Mathlib.Decide.{dec_lt}
use borrow.Author.Tests.{lt-ltb, le-ltb}
use lib.Dec.{eqb, ltb}
use lib.ListN.{length, get_or, replicate, length-replicate, get_or-replicate, get_or-eq_default}
use Rattle.basis.specs.Test.{◌and◌, ◌or◌, any, from}
use Rattle.basis.proofs.BoolLaws.{and_holds, and_fails, or_none, and_false, and_true, or_assoc, by_bool}
use Rattle.basis.proofs.LoopLaws.{any_next}
use Rattle.sets.specs.Mask.{slots, mem}
use Rattle.sets.proofs.MaskLaws.{mem_empty}
use Rattle.cells.specs.Walk.{up_to}
use Rattle.cells.specs.Cells.{gaining, placing}
use Rattle.cells.proofs.WalkLaws.{mem_picked}
use Rattle.cells.proofs.CellsLaws.{gaining_mem, gaining_length, placing_length, placing_at, placing_beyond}
use Rattle.tables.specs.Tables.{agent_in, row_in, pair_in}
use Rattle.tables.proofs.TablesLaws.{reader_slot, writer_slot, first_slot, second_slot}
use Rattle.own.specs.Own.{met_in, later_in, own_in}
use Rattle.own.proofs.OwnLaws.{own_init, own_other}
use Rattle.before.specs.Before.{sync_in, sync_gains, row_steps_in, pair_gains, pair_steps_in, steps_in, direct_in, row_step, pair_step, step_in}
use Rattle.before.proofs.BeforeLaws.{row_gains, row_keeps, row_length, rows_length}

-- ---- masks that each number of a loop adds to

pub record Adds (e d : ℕ) (f : ℕ → List ℕ → List ℕ) (P : ℕ → Bool) : Type 0 where
  pub size : (j : ℕ) (l : List ℕ) → length (f j l) ≡ length l
  pub has : (j : ℕ) (l : List ℕ) → length l ≡ slots → mem (get_or (f j l) e 0) d ≡ (mem (get_or l e 0) d or P j)

module _ (e d : ℕ) (f : ℕ → List ℕ → List ℕ) (P : ℕ → Bool) (a : Adds e d f P) (l : List ℕ) (long : length l ≡ slots) where
  grown_length : (k : ℕ) → length (up_to f k l) ≡ slots
  unfolding up_to
  grown_length zero = long
  grown_length (suc k) = a.size k (up_to f k l) ∙ grown_length k

  pub grown_mem : (k : ℕ) → mem (get_or (up_to f k l) e 0) d ≡ (mem (get_or l e 0) d or any P (from 0 k))
  unfolding up_to any from
  grown_mem zero = sym (or_none (mem (get_or l e 0) d))
  grown_mem (suc k) =
      a.has k (up_to f k l) (grown_length k) ∙ ap (λ (b : Bool). b or P k) (grown_mem k) ∙ or_assoc (mem (get_or l e 0) d) (any P (from 0 k)) (P k)
      ∙ ap (λ (b : Bool). mem (get_or l e 0) d or b) (sym (any_next P k))

-- ---- rows, pairs

module _ (t q : List ℕ) (e d : ℕ) where
  row_has : (j : ℕ) (l : List ℕ) → length l ≡ slots → mem (get_or (sync_gains t (row_in q j) l) e 0) d ≡ (mem (get_or l e 0) d or row_step t e d (row_in q j))
  unfolding row_step
  row_has j l h =
      let r = row_in q j in
      let w = mod-eq_of_lt (writer_slot q j) in
      let v = mod-eq_of_lt (reader_slot q j) in
      let a = eqb r.writer e in
      let b = eqb r.reader d in
      let o : Bool → Bool = λ z. mem (get_or l e 0) d or z in
      by_bool (sync_in t r)
      (λ s. ap (λ (z : List ℕ). mem (get_or z e 0) d) (row_gains t r l s ∙ ap (λ (i : ℕ). gaining l i (r.reader % slots)) w ∙ ap (gaining l r.writer) v)
      ∙ gaining_mem l r.writer r.reader e d (omega (arith, writer_slot q j))
      ∙ ap o (ap (λ (z : Bool). a and z) (sym (ap (λ (z : Bool). b and z) s ∙ and_true b))))
      (λ s. ap (λ (z : List ℕ). mem (get_or z e 0) d) (row_keeps t r l s)
      ∙ sym (ap o (ap (λ (z : Bool). a and z) (ap (λ (z : Bool). b and z) s ∙ and_false b) ∙ and_false a) ∙ or_none (mem (get_or l e 0) d)))

  rows_add : Adds e d (λ (j : ℕ). sync_gains t (row_in q j)) (λ (j : ℕ). row_step t e d (row_in q j))
  rows_add = record { size = λ j l. row_length t (row_in q j) l; has = row_has }

  pub rows_mem : (l : List ℕ) (m : ℕ) → length l ≡ slots → mem (get_or (row_steps_in t q m l) e 0) d ≡ (mem (get_or l e 0) d or any (λ (j : ℕ). row_step t e d (row_in q j)) (from 0 m))
  unfolding row_steps_in
  rows_mem l m h = grown_mem e d (λ (j : ℕ). sync_gains t (row_in q j)) (λ (j : ℕ). row_step t e d (row_in q j)) rows_add l h m

module _ (p : List ℕ) (e d : ℕ) where
  pair_has : (j : ℕ) (l : List ℕ) → length l ≡ slots → mem (get_or (pair_gains (pair_in p j) l) e 0) d ≡ (mem (get_or l e 0) d or pair_step e d (pair_in p j))
  unfolding pair_step
  pair_has j l h =
      let r = pair_in p j in
      let w = mod-eq_of_lt (first_slot p j) in
      let v = mod-eq_of_lt (second_slot p j) in
      ap (λ (z : List ℕ). mem (get_or z e 0) d) (ap (λ (i : ℕ). gaining l i (r.second % slots)) w ∙ ap (gaining l r.first) v)
      ∙ gaining_mem l r.first r.second e d (omega (arith, first_slot p j))

  pairs_add : Adds e d (λ (j : ℕ). pair_gains (pair_in p j)) (λ (j : ℕ). pair_step e d (pair_in p j))
  pairs_add = record { size = λ j l. gaining_length l ((pair_in p j).first % slots) ((pair_in p j).second % slots); has = pair_has }

  pub pairs_mem : (l : List ℕ) (k : ℕ) → length l ≡ slots → mem (get_or (pair_steps_in p k l) e 0) d ≡ (mem (get_or l e 0) d or any (λ (j : ℕ). pair_step e d (pair_in p j)) (from 0 k))
  unfolding pair_steps_in
  pairs_mem l k h = grown_mem e d (λ (j : ℕ). pair_gains (pair_in p j)) (λ (j : ℕ). pair_step e d (pair_in p j)) pairs_add l h k

-- ---- what two events make by themselves

pub empty_at : (e : ℕ) → ◌≡◌ {A = ℕ} (get_or (replicate slots 0) e 0) 0
empty_at e = go (dec_lt e slots)
  where
    go : Dec (e < slots) → ◌≡◌ {A = ℕ} (get_or (replicate slots 0) e 0) 0
    go (yes l) = get_or-replicate slots e 0 0 l
    go (no f) = get_or-eq_default (replicate slots 0) 0 {n = e} (let k = length-replicate {A = ℕ} slots 0 in omega arith)

module _ (t : List ℕ) (n : ℕ) (few : n ≤ slots) (e d : ℕ) where
  own_mem : mem (own_in t n e) d ≡ (ltb d n and cond (eqb (agent_in t e) 0) (met_in t e d) (later_in t e d))
  own_mem =
      by_bool (eqb (agent_in t e) 0)
      (λ a. ap (λ (z : ℕ). mem z d) (sym (own_init t n e a)) ∙ mem_picked n (met_in t e) d ∙ sym (ap (λ (b : Bool). ltb d n and cond b (met_in t e d) (later_in t e d)) a))
      (λ a. ap (λ (z : ℕ). mem z d) (sym (own_other t n e a)) ∙ mem_picked n (later_in t e) d ∙ sym (ap (λ (b : Bool). ltb d n and cond b (met_in t e d) (later_in t e d)) a))

  pub owns_mem : mem (get_or (placing (own_in t n) n (replicate slots 0)) e 0) d ≡ direct_in t n e d
  unfolding direct_in
  owns_mem = go (dec_lt e n)
    where
      go : Dec (e < n) → mem (get_or (placing (own_in t n) n (replicate slots 0)) e 0) d ≡ (ltb e n and ltb d n and cond (eqb (agent_in t e) 0) (met_in t e d) (later_in t e d))
      go (yes h) =
          let k = length-replicate {A = ℕ} slots 0 in
          ap (λ (z : ℕ). mem z d) (placing_at (own_in t n) (replicate slots 0) n e h (omega arith)) ∙ own_mem ∙ sym (and_holds (ltb e n) _ (lt-ltb e n h))
      go (no h) =
          ap (λ (z : ℕ). mem z d) (placing_beyond (own_in t n) (replicate slots 0) n e (omega (arith, h)) ∙ empty_at e) ∙ mem_empty d
          ∙ sym (and_fails (ltb e n) _ (le-ltb e n (omega (arith, h))))

  pub steps_mem : (q : List ℕ) (m : ℕ) (p : List ℕ) (k : ℕ) → mem (get_or (steps_in t n q m p k (replicate slots 0)) e 0) d ≡ step_in t n q m p k e d
  unfolding steps_in step_in
  steps_mem q m p k =
      let l = placing (own_in t n) n (replicate slots 0) in
      let long : length l ≡ slots = placing_length (own_in t n) (replicate slots 0) n ∙ length-replicate {A = ℕ} slots 0 in
      pairs_mem p e d (row_steps_in t q m l) k (rows_length t q l m ∙ long)
      ∙ ap (λ (b : Bool). b or any (λ (j : ℕ). pair_step e d (pair_in p j)) (from 0 k))
      (rows_mem t q e d l m long ∙ ap (λ (b : Bool). b or any (λ (j : ℕ). row_step t e d (row_in q j)) (from 0 m)) owns_mem)
