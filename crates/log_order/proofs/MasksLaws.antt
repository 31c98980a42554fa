-- The laws of the private steps (specs/steps/Masks.antt): the tests by masks are the list's. Assumes nothing.
--     stood_empty, stood_more, ranked_none, ranked_more     the numbers of the list, one by one
--     bad_twice, bad_not, small_of, named_of                what a turn of `bad` tests, and what it says of the whole list
--     lacks_is, late_is, row_cross, crosses_is, crosses_no     what `lacks`, `early` and a turn of `barred` test
--     early_said, early_none                                what `ordered` answers
--     bar_yes, bar_no                                       what `barred` answers
--     length_said, number_said, order_said                  what `check` answers
use mathlib.Core.Path.{◌≡◌, refl, sym, ap, ◌∙◌, subst}
use mathlib.Core.Bool.{Bool, true, false, cond, not, ◌&&◌}
use mathlib.Core.Logic.{⊎_elim}
use mathlib.Core.List.{List}
use mathlib.Core.Option.{Option, none, some}
use Prim.Native.Nat.{ℕ, ◌+◌, ◌%◌, ◌^◌, ◌≤◌, ◌<◌, min}
use native.Mathlib.Nat.{mod-eq_of_lt}
use native.Mathlib.Omega.{arith}
use native.Mathlib.Decide.{ℕ_discrete}
use borrow.Author.Tests.{eq-eqb, ne_eqb, eqb-true, lt-ltb, le-ltb, ltb-true, ltb-false}
use lib.Bits.{bit_and, bit_or}
use lib.Dec.{eqb, ltb}
use lib.ListN.{length, get_or, set, replicate, get_or-replicate}
use lib.Seq.{get_or-set_same, get_or-set_other}
use Rattle.basis.specs.Test.{◌and◌, ◌or◌, non, any, find, ◌else◌, mapped, from}
use Rattle.basis.proofs.BoolLaws.{by_bool, bool_ext, not_both_ways, false_of, true_T, T_true, and_holds, and_fails, and_both, both_hold, amp_and, bar_or, or_holds, or_fails, or_either, or_none, or_second, non_true, non_holds, non_fails, and_parts}
use Rattle.basis.proofs.ListLaws.{from_mem, from_elim}
use Rattle.basis.proofs.LoopLaws.{any_elim, any_intro}
use Rattle.basis.proofs.FindLaws.{find_same, find_at, find_no, find_firsts}
use Rattle.format.specs.declared.Row.{Row}
use Rattle.sets.specs.Mask.{slots, mem, Has, Within, insert, full}
use Rattle.sets.specs.Tells.{Tells}
use Rattle.sets.proofs.MaskLaws.{mem_empty, mem_and, mem_or, mem_lt, mem_full, full_has, insert_cases, insert_old, insert_new}
use Rattle.std.specs.Prelude.{Option as Opt, Some, None}
use Rattle.cells.specs.First.{first_of, first_some, First}
use Rattle.cells.proofs.FirstLaws.{first_of_lem, first_find, first_found, first_past, some_is, none_is}
use Rattle.tables.specs.Tables.{row_room, row_in}
use Rattle.tables.proofs.TablesLaws.{reader_slot, writer_slot, row_at_lem}
use Rattle.alike.specs.Ranges.{equals_in}
use Rattle.bars.specs.Bars.{mask_in}
use Rattle.orders.specs.Order.{Precedes}
use Rattle.orders.proofs.OrderLaws.{precedes_in}
use Rattle.orders.proofs.PlaceLaws.{at_in_lem, either_way, distinct_apart, distinct_loop}
use Rattle.log_order.specs.declared.Fault.{Fault}
use Rattle.log_order.specs.declared.Fault.TheVariants.{WrongLength, BadNumber, TooEarly, Barred}
use Rattle.std.specs.Prelude.{Ok, Err}
use Rattle.log_order.specs.Listed.{Said, stood, ahead_in, ahead, bad_at, early_at, barred_at, longest, length_fault, number_fault, early_fault, bar_fault, list_fault, said_of}
use Rattle.log_order.specs.Trial.{trial_in}
use Rattle.log_order.specs.steps.Masks.{Small, Stood, Ranked, Named, lacks, late_in, cross_in, crosses_in, bar_in}
use Rattle.log_order.proofs.ListLaws.{stood_none, stood_next, ahead_none, ahead_next, ahead_precedes, precedes_ahead, bad_again, good_range, is_event, is_once, is_all}
use Rattle.log_order.proofs.MeetsLaws.{late_at, at_late, barred_at_lem}

-- ---- the first numbers as a set

pub stood_empty : (l : List ℕ) → Stood l 0 0
stood_empty l e = mem_empty e ∙ sym (stood_none l e)

pub stood_more : (l : List ℕ) (j s : ℕ) → Stood l j s → get_or l j 0 < slots → Stood l (j + 1) (insert s (get_or l j 0 % slots))
stood_more l j s p h e =
    ap (λ (y : ℕ). mem (insert s y) e) (mod-eq_of_lt h)
    ∙ bool_ext (mem (insert s (get_or l j 0)) e) (stood l j e or eqb (get_or l j 0) e)
    (λ k. ⊎_elim (λ c. or_second (stood l j e) (eqb (get_or l j 0) e) (eq-eqb (get_or l j 0) e (sym c))) (λ c. or_holds (stood l j e) (eqb (get_or l j 0) e) (sym (p e) ∙ c)) (insert_cases s (get_or l j 0) e k))
    (λ k. ⊎_elim (λ c. insert_old s (get_or l j 0) e (p e ∙ c)) (λ c. subst (λ (x : ℕ). Has (insert s (get_or l j 0)) x) (eqb-true (get_or l j 0) e c) (insert_new s (get_or l j 0))) (or_either (stood l j e) (eqb (get_or l j 0) e) k))
    ∙ sym (stood_next l j e)

-- ---- what stands before each number

pub ranked_none : (l : List ℕ) → Ranked l 0 (replicate slots 0)
ranked_none l e a h = ap (λ (x : ℕ). mem x a) (get_or-replicate slots e 0 0 h) ∙ mem_empty a ∙ sym (ahead_none l a e)

pub ranked_more : (l : List ℕ) (j s : ℕ) (t : List ℕ) → Stood l j s → Ranked l j t → length t ≡ slots → get_or l j 0 < slots
    → Ranked l (j + 1) (set t (get_or l j 0) (bit_or (get_or t (get_or l j 0) 0) s))
ranked_more l j s t p r n h e a k = go (ℕ_discrete e (get_or l j 0)) ∙ sym (ahead_next l j a e)
  where
    there : mem (get_or (set t (get_or l j 0) (bit_or (get_or t (get_or l j 0) 0) s)) (get_or l j 0) 0) a
        ≡ (ahead_in l j a (get_or l j 0) or (eqb (get_or l j 0) (get_or l j 0) and stood l j a))
    there =
        ap (λ (x : ℕ). mem x a) (get_or-set_same t (get_or l j 0) (bit_or (get_or t (get_or l j 0) 0) s) 0 (omega (arith, n, h)))
        ∙ mem_or (get_or t (get_or l j 0) 0) s a
        ∙ bar_or (mem (get_or t (get_or l j 0) 0) a) (mem s a)
        ∙ ap (λ (b : Bool). b or mem s a) (r (get_or l j 0) a h)
        ∙ ap (λ (b : Bool). ahead_in l j a (get_or l j 0) or b) (p a ∙ sym (and_holds (eqb (get_or l j 0) (get_or l j 0)) (stood l j a) (eq-eqb (get_or l j 0) (get_or l j 0) refl)))

    go : Dec (e ≡ get_or l j 0) → mem (get_or (set t (get_or l j 0) (bit_or (get_or t (get_or l j 0) 0) s)) e 0) a ≡ (ahead_in l j a e or (eqb (get_or l j 0) e and stood l j a))
    go (yes d) =
        subst (λ (y : ℕ). mem (get_or (set t (get_or l j 0) (bit_or (get_or t (get_or l j 0) 0) s)) y 0) a ≡ (ahead_in l j a y or (eqb (get_or l j 0) y and stood l j a))) (sym d) there
    go (no d) =
        ap (λ (x : ℕ). mem x a) (get_or-set_other t (get_or l j 0) e (bit_or (get_or t (get_or l j 0) 0) s) 0 d) ∙ r e a k ∙ sym (or_none (ahead_in l j a e))
        ∙ ap (λ (b : Bool). ahead_in l j a e or b) (sym (and_fails (eqb (get_or l j 0) e) (stood l j a) (ne_eqb (get_or l j 0) e (λ z. d (sym z)))))

-- ---- a bad number

module _ (m : ℕ) (l : List ℕ) (j s : ℕ) (p : Stood l j s) (h : get_or l j 0 < m) (b : m ≤ slots) where
  same_place : mem s (get_or l j 0 % slots) ≡ stood l j (get_or l j 0)
  same_place = ap (mem s) (mod-eq_of_lt (omega (arith, h, b))) ∙ p (get_or l j 0)

  pub bad_twice : mem s (get_or l j 0 % slots) ≡ true → bad_at m l j ≡ true
  bad_twice k = bad_again m l j (sym same_place ∙ k)

  pub bad_not : mem s (get_or l j 0 % slots) ≡ false → bad_at m l j ≡ false
  unfolding bad_at
  bad_not k = or_fails (non (ltb (get_or l j 0) m)) (stood l j (get_or l j 0)) (non_fails (ltb (get_or l j 0) m) (lt-ltb (get_or l j 0) m h)) ∙ sym same_place ∙ k

pub named_of : (m : ℕ) (l : List ℕ) (o : Opt ℕ) → m ≤ slots → length l ≡ m → o ≡ first_some (bad_at m l) (length l) → o ≡ None → Named m l
named_of m l o h n e k =
    let f = first_of_lem (bad_at m l) (length l) in
    let z = none_is (bad_at m l) (length l) o e k in
    record { few = h; long = n; numbers = λ i b. f.least i (omega (arith, z, b, n)) }

pub small_of : {m : ℕ} {l : List ℕ} → Named m l → Small l
small_of {m} {l} n i b = let g = good_range m l i (n.numbers i b) in let f = n.few in omega arith

-- ---- the tests by masks

pub lacks_is : (a b : ℕ) (r : Bool) → a < 2 ^ slots → Tells r (Within a b) → not r ≡ lacks a b
unfolding lacks
lacks_is a b true h t =
    sym (false_of _
    (λ y. let w = any_elim (λ (d : ℕ). mem a d and non (mem b d)) (from 0 slots) (true_T _ y) in
    let k = and_both (mem a w.0) (non (mem b w.0)) (T_true _ w.2) in
    not_both_ways (t.holds refl w.0 k.0) (non_true (mem b w.0) k.1)))
lacks_is a b false h t =
    sym (by_bool (any (λ (d : ℕ). mem a d and non (mem b d)) (from 0 slots)) (λ y. y)
    (λ y. absurd (t.fails refl
    (λ d k. by_bool (mem b d) (λ z. z)
    (λ z. absurd (not_both_ways
    (T_true _ (any_intro (λ (e : ℕ). mem a e and non (mem b e)) (from 0 slots) d (let l = mem_lt slots a d h k in from_mem slots 0 d (omega arith) (omega arith)) (true_T _ (both_hold (mem a d) (non (mem b d)) k (non_holds (mem b d) z)))))
    y))))))

-- what a turn of `early` tests
pub late_is : (all : ℕ) (pred earlier l : List ℕ) (j w : ℕ) → w ≡ insert (get_or earlier (get_or l j 0 % slots) 0) (get_or l j 0 % slots % slots)
    → {b : Bool} → b ≡ lacks (bit_and (get_or pred (get_or l j 0 % slots) 0) all) w → b ≡ late_in all pred earlier l j
unfolding late_in
late_is all pred earlier l j w e f =
    let i : get_or l j 0 % slots % slots ≡ get_or l j 0 % slots = omega arith in
    f ∙ ap (lacks (bit_and (get_or pred (get_or l j 0 % slots) 0) all)) (e ∙ ap (insert (get_or earlier (get_or l j 0 % slots) 0)) i)

module _ (q : List ℕ) (j : ℕ) (h : j < row_room) (r : Row) (p : r ≡ row_in q (j % row_room)) (t eq succ pred earlier : List ℕ) (o : Opt ℕ)
    (e : o ≡ first_some (cross_in t eq succ pred earlier r) slots) where
  pub row_cross : o ≡ first_some (cross_in t eq succ pred earlier (row_in q j)) slots
  row_cross = e ∙ ap (λ (x : Row). first_some (cross_in t eq succ pred earlier x) slots) (row_at_lem q j h r p)

  pub crosses_is : (v : ℕ) → o ≡ Some v → (v ≡ first_of (cross_in t eq succ pred earlier (row_in q j)) slots) × (v < slots)
  crosses_is v l = some_is (cross_in t eq succ pred earlier (row_in q j)) slots o v row_cross l

  pub crosses_no : o ≡ None → crosses_in t eq succ pred earlier q j ≡ false
  unfolding crosses_in
  crosses_no l = le-ltb (first_of (cross_in t eq succ pred earlier (row_in q j)) slots) slots (none_is (cross_in t eq succ pred earlier (row_in q j)) slots o row_cross l)

-- ---- what is found first

module _ (p : ℕ → Bool) (n : ℕ) (o : Opt ℕ) (e : o ≡ first_some p n) where
  found_at : (i : ℕ) → o ≡ Some i → find p (from 0 n) ≡ some i
  found_at i h =
      let k = some_is p n o i e h in
      first_find p n ∙ ap (λ (b : Bool). cond b (some (first_of p n)) none) (lt-ltb (first_of p n) n (omega (arith, k.0, k.1))) ∙ ap some (sym k.0)

  found_past : o ≡ None → find p (from 0 n) ≡ none
  found_past h = first_find p n ∙ ap (λ (b : Bool). cond b (some (first_of p n)) none) (le-ltb (first_of p n) n (none_is p n o e h))

-- ---- barred

module _ (m : ℕ) (t succ pred earlier q : List ℕ) (n : ℕ) (eq : List ℕ) (alike : eq ≡ equals_in t m) where
  abbrev named : List ℕ → ℕ → Fault
  named k i = Barred (row_in q i).reader (row_in q i).writer (first_of (cross_in t k succ pred earlier (row_in q i)) slots) (row_in q i).address

  -- what the first says is said by the sets of equal ranges
  by_sets : (j : ℕ) → j ≡ first_of (crosses_in t eq succ pred earlier q) n → said_of (cond (ltb j n) (some (named eq j)) none) ≡ said_of (bar_in m t succ pred earlier q n)
  unfolding bar_in
  by_sets j is =
      ap (λ (i : ℕ). said_of (cond (ltb i n) (some (named eq i)) none)) is
      ∙ ap (λ (k : List ℕ). let i = first_of (crosses_in t k succ pred earlier q) n in said_of (cond (ltb i n) (some (named k i)) none)) alike

  pub bar_yes : n ≤ row_room → (j : ℕ) → j < n → ((d : ℕ) → d < j → crosses_in t eq succ pred earlier q d ≡ false) → (r : Row) → r ≡ row_in q (j % row_room)
      → (v : ℕ) → (v ≡ first_of (cross_in t eq succ pred earlier (row_in q j)) slots) × (v < slots)
      → Err (Barred r.reader r.writer v r.address) ≡ said_of (bar_in m t succ pred earlier q n)
  unfolding said_of crosses_in
  bar_yes room j h before r p v e =
      let yes : crosses_in t eq succ pred earlier q j ≡ true = let f = e.0 in let g = e.1 in lt-ltb (first_of (cross_in t eq succ pred earlier (row_in q j)) slots) slots (omega arith) in
      let at = row_at_lem q j (omega arith) r p in
      ap (λ (x : Row). Err (Barred x.reader x.writer v x.address)) at
      ∙ ap (λ (x : ℕ). Err (Barred (row_in q j).reader (row_in q j).writer x (row_in q j).address)) e.0
      ∙ sym (ap (λ (b : Bool). said_of (cond b (some (named eq j)) none)) (lt-ltb j n h))
      ∙ by_sets j (first_found (crosses_in t eq succ pred earlier q) n j h before yes)

  pub bar_no : ((d : ℕ) → d < n → crosses_in t eq succ pred earlier q d ≡ false) → (Ok tt) ≡ said_of (bar_in m t succ pred earlier q n)
  unfolding said_of
  bar_no before =
      sym (ap (λ (b : Bool). said_of (cond b (some (named eq n)) none)) (le-ltb n n (omega arith)))
      ∙ by_sets n (first_past (crosses_in t eq succ pred earlier q) n n (omega arith) before)

-- ---- a list that names each event once

turned : (a b c : Bool) → ((a && b) and c) ≡ (c and b and a)
unfolding ◌and◌
turned true true true = refl
turned true true false = refl
turned true false true = refl
turned true false false = refl
turned false true true = refl
turned false true false = refl
turned false false true = refl
turned false false false = refl

module _ {m : ℕ} {l : List ℕ} (named-once : Named m l) (earlier : List ℕ) (ranked : Ranked l (length l) earlier) (t succ pred q : List ℕ) (n : ℕ) where
  module _ (i : ℕ) (h : i < length l) where
    abbrev x : ℕ
    x = get_or l i 0

    small : x < slots
    small = small_of named-once i h

    abbrev missed : ℕ → Bool
    missed d = mem (bit_and (get_or pred x 0) (full m)) d and non (mem (insert (get_or earlier x 0) x) d)

    forth : any missed (from 0 slots) ≡ true → early_at (trial_in m t succ pred q n) l i ≡ true
    forth y =
        let w = any_elim missed (from 0 slots) (true_T _ y) in
        let d = w.0 in
        let k = and_both (mem (bit_and (get_or pred x 0) (full m)) d) (non (mem (insert (get_or earlier x 0) x) d)) (T_true _ w.2) in
        let b = and_parts (mem (get_or pred x 0) d) (mem (full m) d) (sym (mem_and (get_or pred x 0) (full m) d) ∙ k.0) in
        let out = non_true (mem (insert (get_or earlier x 0) x) d) k.1 in
        let small-d = full_has m d b.1 in
        at_late (trial_in m t succ pred q n) l i d small-d (true_T _ b.0)
        (either_way l d x (is_all m l named-once.long named-once.numbers d small-d) (at_in_lem l i h)
        (λ e. not_both_ways (subst (λ (z : ℕ). Has (insert (get_or earlier x 0) x) z) (sym e) (insert_new (get_or earlier x 0) x)) out)
        (λ p. not_both_ways (insert_old (get_or earlier x 0) x d (ranked x d small ∙ precedes_ahead l d x p)) out))

    back : early_at (trial_in m t succ pred q n) l i ≡ true → any missed (from 0 slots) ≡ true
    back y =
        let w = late_at (trial_in m t succ pred q n) l i y in
        let d = w.0 in
        let f = named-once.few in
        let once = is_once m l named-once.long named-once.numbers in
        T_true _ (any_intro missed (from 0 slots) d (from_mem slots 0 d (omega arith) (omega (arith, w.1)))
        (true_T _ (both_hold _ _
        (mem_and (get_or pred x 0) (full m) d ∙ amp_and (mem (get_or pred x 0) d) (mem (full m) d) ∙ both_hold (mem (get_or pred x 0) d) (mem (full m) d) (T_true _ w.2) (mem_full m d w.1))
        (non_holds (mem (insert (get_or earlier x 0) x) d) (false_of (mem (insert (get_or earlier x 0) x) d)
        (λ k. ⊎_elim (λ e. distinct_apart x l once (subst (λ (z : ℕ). Precedes x z l) e w.3))
        (λ g. distinct_loop d x l once (ahead_precedes l d x (sym (ranked x d small) ∙ g)) w.3)
        (insert_cases (get_or earlier x 0) x d k)))))))

    late_same : late_in (full m) pred earlier l i ≡ early_at (trial_in m t succ pred q n) l i
    unfolding late_in lacks
    late_same =
        ap (λ (y : ℕ). any (λ (d : ℕ). mem (bit_and (get_or pred y 0) (full m)) d and non (mem (insert (get_or earlier y 0) y) d)) (from 0 slots)) (mod-eq_of_lt small)
        ∙ bool_ext _ _ forth back

  cross_same : (j v : ℕ) → v < slots → cross_in t (equals_in t m) succ pred earlier (row_in q j) v ≡ barred_at (trial_in m t succ pred q n) l (row_in q j, v)
  unfolding cross_in barred_at
  cross_same j v h =
      let r = row_in q j in
      let i = mod-eq_of_lt (reader_slot q j) in
      let k = mod-eq_of_lt (writer_slot q j) in
      ap (λ (x : ℕ). mem (bit_and (mask_in t (equals_in t m) succ pred r) (get_or earlier x 0)) v and mem (get_or earlier v 0) (r.writer % slots)) i
      ∙ ap (λ (x : ℕ). mem (bit_and (mask_in t (equals_in t m) succ pred r) (get_or earlier r.reader 0)) v and mem (get_or earlier v 0) x) k
      ∙ ap (λ (b : Bool). b and mem (get_or earlier v 0) r.writer) (mem_and (mask_in t (equals_in t m) succ pred r) (get_or earlier r.reader 0) v)
      ∙ turned (mem (mask_in t (equals_in t m) succ pred r) v) (mem (get_or earlier r.reader 0) v) (mem (get_or earlier v 0) r.writer)
      ∙ ap (λ (b : Bool). b and mem (get_or earlier r.reader 0) v and mem (mask_in t (equals_in t m) succ pred r) v) (ranked v r.writer h)
      ∙ ap (λ (b : Bool). ahead l r.writer v and b and mem (mask_in t (equals_in t m) succ pred r) v) (ranked r.reader v (reader_slot q j))

  module _ (j : ℕ) where
    abbrev first : ℕ
    first = first_of (cross_in t (equals_in t m) succ pred earlier (row_in q j)) slots

    fst : First (cross_in t (equals_in t m) succ pred earlier (row_in q j)) slots first
    fst = first_of_lem (cross_in t (equals_in t m) succ pred earlier (row_in q j)) slots

    over_at : crosses_in t (equals_in t m) succ pred earlier q j ≡ true → find (λ (v : ℕ). barred_at (trial_in m t succ pred q n) l (row_in q j, v)) (from 0 m) ≡ some first
    unfolding crosses_in
    over_at g =
        let k = ltb-true first slots g in
        let hit = sym (cross_same j first k) ∙ fst.passes k in
        let e = is_event m l named-once.long named-once.numbers first (precedes_in (row_in q j).writer first l (barred_at_lem (trial_in m t succ pred q n) l (row_in q j) first hit).0) in
        find_at (λ (v : ℕ). barred_at (trial_in m t succ pred q n) l (row_in q j, v)) m first e hit (λ d z. sym (cross_same j d (omega arith)) ∙ fst.least d z)

    over_not : crosses_in t (equals_in t m) succ pred earlier q j ≡ false → find (λ (v : ℕ). barred_at (trial_in m t succ pred q n) l (row_in q j, v)) (from 0 m) ≡ none
    unfolding crosses_in
    over_not g =
        let k = ltb-false first slots g in
        let f = named-once.few in
        find_no (λ (v : ℕ). barred_at (trial_in m t succ pred q n) l (row_in q j, v)) m (λ d z. sym (cross_same j d (omega arith)) ∙ fst.least d (omega arith))

  abbrev good : ℕ → Bool
  good = crosses_in t (equals_in t m) succ pred earlier q

  abbrev says : ℕ → Fault
  says j = Barred (row_in q j).reader (row_in q j).writer (first j) (row_in q j).address

  bar_same : bar_in m t succ pred earlier q n ≡ bar_fault (trial_in m t succ pred q n) l
  unfolding bar_in bar_fault mapped
  bar_same =
      go (ltb (first_of good n) n)
      ∙ ap (mapped (λ (j : ℕ). says j)) (sym (first_find good n))
      ∙ sym (find_firsts (row_in q) (barred_at (trial_in m t succ pred q n) l) (λ (p : Row × ℕ). Barred p.0.reader p.0.writer p.1 p.0.address) (from 0 m) good first (from 0 n) (λ j k. over_at j) (λ j k. over_not j))
    where
      go : (b : Bool) → cond b (some (says (first_of good n))) none ≡ mapped (λ (j : ℕ). says j) (cond b (some (first_of good n)) none)
      go true = refl
      go false = refl

  same_room : min m slots ≡ m
  same_room = let f = named-once.few in omega arith

  module _ (all : ℕ) (every : all ≡ full (min m slots)) (late : Opt ℕ) (is : late ≡ first_some (late_in all pred earlier l) (length l)) where
    -- the first that is late is the first that is early
    is_late : late ≡ first_some (late_in (full m) pred earlier l) (length l)
    is_late = is ∙ ap (λ (a : ℕ). first_some (late_in a pred earlier l) (length l)) (every ∙ ap full same_room)

    same_find : find (late_in (full m) pred earlier l) (from 0 (length l)) ≡ find (early_at (trial_in m t succ pred q n) l) (from 0 (length l))
    same_find = find_same _ _ (from 0 (length l)) (λ d k. late_same d (let z = from_elim (length l) 0 d k in omega (arith, z.1)))

    abbrev then : Option ℕ → Said
    then o = said_of (mapped (λ (k : ℕ). TooEarly k) o else bar_fault (trial_in m t succ pred q n) l)

    pub early_said : (i : ℕ) → late ≡ Some i → Err (TooEarly i) ≡ said_of (early_fault (trial_in m t succ pred q n) l else bar_fault (trial_in m t succ pred q n) l)
    unfolding early_fault mapped ◌else◌ said_of
    early_said i h = sym (ap then (sym same_find ∙ found_at _ (length l) late is_late i h))

    pub early_none : late ≡ None → {r : Said} → r ≡ said_of (bar_in (min m slots) t succ pred earlier q n)
        → r ≡ said_of (early_fault (trial_in m t succ pred q n) l else bar_fault (trial_in m t succ pred q n) l)
    unfolding early_fault mapped ◌else◌
    early_none h e =
        e ∙ ap (λ (k : ℕ). said_of (bar_in k t succ pred earlier q n)) same_room ∙ ap said_of bar_same
        ∙ sym (ap then (sym same_find ∙ found_past _ (length l) late is_late h))

-- ---- check

module _ (m : ℕ) (t succ pred q : List ℕ) (n : ℕ) (l : List ℕ) where
  abbrev rest : Option Fault → Said
  rest o = said_of (o else early_fault (trial_in m t succ pred q n) l else bar_fault (trial_in m t succ pred q n) l)

  abbrev behind : Option Fault → Said
  behind o = said_of (o else number_fault (trial_in m t succ pred q n) l else early_fault (trial_in m t succ pred q n) l else bar_fault (trial_in m t succ pred q n) l)

  pub length_said : (length l ≡ m → ⊥) → Err (WrongLength (min (length l) longest)) ≡ said_of (list_fault (trial_in m t succ pred q n) l)
  unfolding list_fault length_fault ◌else◌ said_of
  length_said h = sym (ap (λ (b : Bool). behind (cond b none (some (WrongLength (min (length l) longest))))) (ne_eqb (length l) m h))

  module _ (long : length l ≡ m) (bad : Opt ℕ) (is : bad ≡ first_some (bad_at m l) (length l)) where
    right_length : said_of (number_fault (trial_in m t succ pred q n) l else early_fault (trial_in m t succ pred q n) l else bar_fault (trial_in m t succ pred q n) l) ≡ said_of (list_fault (trial_in m t succ pred q n) l)
    unfolding list_fault length_fault ◌else◌
    right_length = sym (ap (λ (b : Bool). behind (cond b none (some (WrongLength (min (length l) longest))))) (eq-eqb (length l) m long))

    pub number_said : (i : ℕ) → bad ≡ Some i → Err (BadNumber i) ≡ said_of (list_fault (trial_in m t succ pred q n) l)
    unfolding number_fault mapped ◌else◌ said_of
    number_said i h = sym (ap (λ (o : Option ℕ). rest (mapped (λ (k : ℕ). BadNumber k) o)) (found_at (bad_at m l) (length l) bad is i h)) ∙ right_length

    pub order_said : bad ≡ None → {r : Said} → r ≡ said_of (early_fault (trial_in m t succ pred q n) l else bar_fault (trial_in m t succ pred q n) l) → r ≡ said_of (list_fault (trial_in m t succ pred q n) l)
    unfolding number_fault mapped ◌else◌
    order_said h e = e ∙ sym (ap (λ (o : Option ℕ). rest (mapped (λ (k : ℕ). BadNumber k) o)) (found_past (bad_at m l) (length l) bad is h)) ∙ right_length
