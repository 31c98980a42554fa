-- The laws of specs/Bars.antt: the list of a table's bars says what the table says. Assumes nothing.
--     before_is                     what has to come before what, as a test and as the table has it
--     has_facts has_of              what `has_bar` tests
--     bars_sorted bars-mem mem-bars     the list of the bars: it rises; what stands in it
--     triples_same                  two lists of triples that rise and have the same entries are equal
--     numbered                      the bars of a table by their numbers are its bars
--     bar_listed listed_bar         the table has the bars of its list, and no others
--     leaves_fewer                  fewer bars keep an order
--     leaves_table table_leaves     the problem of a table is the problem of its list of bars
use Prim.Native.Nat.{ℕ, ◌+◌, ◌*◌, ◌/◌, ◌%◌, ◌<◌, ◌≤◌, zero-le}
use mathlib.Core.Path.{◌≡◌, refl, sym, ap₂, subst}
use mathlib.Core.Bool.{true}
use mathlib.Core.Logic.{inl, inr, ◌↔◌}
use mathlib.Core.List.{List, [], ◌∷◌, Memᴰ}
use native.Mathlib.Omega.{arith}
use borrow.Author.Tests.{ltb-true, lt-ltb}
use lib.Dec.{T}
use lib.ListN.{get_or}
use Rattle.basis.specs.Test.{each, across, from}
use Rattle.basis.proofs.BoolLaws.{and_elim, and_intro, true_T, T_true}
use Rattle.basis.proofs.ListLaws.{each_elim, each_mem, from_mem, from_elim, across_left, across_right, across_mem}
use Rattle.basis.proofs.FindLaws.{Sorted, Then, sorted_from, sorted_across}
use Rattle.basis.proofs.ThoseLaws.{those_elim, those_intro, those_sorted, sorted_same}
use Rattle.sets.specs.Mask.{slots, Has}
use Rattle.sets.proofs.MaskLaws.{mem_lt}
use Rattle.gather.specs.Writers.{bar_at}
use Rattle.orders.specs.Posed.{Triple, triples, posed}
use Rattle.orders.specs.Step.{Below, Runs}
use Rattle.orders.specs.Tables.{tabled}
use Rattle.orders.proofs.StepLaws.{runs_fewer}
use Rattle.kept.specs.Bars.{has_bar, table_bars, before_in, Placeable}
use Rattle.kept.specs.Kept.{Fewer}
use Rattle.kept.specs.steps.Numbers.{numbers, number_of, reader_of, writer_of, between_of, triple_of, mask_at, is_bar, bar_numbers}
use Rattle.kept.specs.steps.Thin.{Wide, LeavesBy}
use Rattle.kept.proofs.KeptLaws.{sub_in}
use Rattle.kept.proofs.NumbersLaws.{Below3, number_parts, number_below, bar_facts, bar_of}

-- ---- what has to come before what

pub before_is : (m : ℕ) (before : List ℕ) (a b : ℕ) → T (before_in m before a b) ↔ ((b < m) × Has (get_or before b 0) a)
unfolding before_in
before_is m before a b = (
  (λ t. let w = and_elim _ _ t in (ltb-true b m (T_true _ w.0), T_true _ w.1)),
  (λ h. and_intro _ _ (true_T _ (lt-ltb b m h.0)) (true_T _ h.1)),
)

-- ---- triples that rise

below3_strict : (a b : Triple) → Below3 a b → Below3 b a → ⊥
below3_strict a b (inl p) (inl q) = omega arith
below3_strict a b (inl p) (inr q) = let e = q.0 in omega arith
below3_strict a b (inr p) (inl q) = let e = p.0 in omega arith
below3_strict a b (inr (e, inl p)) (inr (f, inl q)) = omega arith
below3_strict a b (inr (e, inl p)) (inr (f, inr q)) = let g = q.0 in omega arith
below3_strict a b (inr (e, inr p)) (inr (f, inl q)) = let g = p.0 in omega arith
below3_strict a b (inr (e, inr p)) (inr (f, inr q)) = let g = p.1 in let h = q.1 in omega arith

pub triples_same : (k l : List Triple) → Sorted Below3 k → Sorted Below3 l → ((b : Triple) → Memᴰ b k → Memᴰ b l)
    → ((b : Triple) → Memᴰ b l → Memᴰ b k) → k ≡ l
triples_same = sorted_same Below3 below3_strict

pub triples_sorted : (n : ℕ) → Sorted Below3 (triples n)
triples_sorted n =
    sorted_across (λ a b. a < b) (Then (λ a b. a < b) (λ a b. a < b)) (from 0 n) (across (from 0 n) (from 0 n)) (sorted_from n 0)
    (sorted_across (λ a b. a < b) (λ a b. a < b) (from 0 n) (from 0 n) (sorted_from n 0) (sorted_from n 0))

pub triples_mem : (n r w v : ℕ) → r < n → w < n → v < n → Memᴰ {A = Triple} (r, (w, v)) (triples n)
triples_mem n r w v a b c =
    across_mem (from 0 n) (across (from 0 n) (from 0 n)) r (w, v) (from_mem n 0 r zero-le (omega arith))
    (across_mem (from 0 n) (from 0 n) w v (from_mem n 0 w zero-le (omega arith)) (from_mem n 0 v zero-le (omega arith)))

-- numbers that rise are triples that rise
each_sorted : (l : List ℕ) → Sorted (λ a b. a < b) l → ((i : ℕ) → Memᴰ i l → i < numbers) → Sorted Below3 (each triple_of l)
unfolding each
each_sorted [] s h = tt
each_sorted (i ∷ l) s h = (
  (λ b k.
      let w = each_elim triple_of l b k in
      subst (Below3 (triple_of i)) w.1.1 (number_below i w.0 (h i (Memᴰ.head refl)) (h w.0 (Memᴰ.tail w.1.0)) (s.0 w.0 w.1.0))),
  each_sorted l s.1 (λ j k. h j (Memᴰ.tail k)),
)

-- ---- the list of the bars

module _ (m : ℕ) (bars : List ℕ) where
  pub has_facts : (b : Triple) → T (has_bar m bars b) → (b.1.0 < m) × (b.1.1 < m) × Has (bar_at bars b.1.1 b.1.0) b.0
  unfolding has_bar
  has_facts b t =
      let p = and_elim _ _ t in
      let q = and_elim _ _ p.1 in
      (ltb-true b.1.0 m (T_true _ p.0), ltb-true b.1.1 m (T_true _ q.0), T_true _ q.1)

  pub has_of : (b : Triple) → b.1.0 < m → b.1.1 < m → Has (bar_at bars b.1.1 b.1.0) b.0 → T (has_bar m bars b)
  unfolding has_bar
  has_of b x y h = and_intro _ _ (true_T _ (lt-ltb b.1.0 m x)) (and_intro _ _ (true_T _ (lt-ltb b.1.1 m y)) (true_T _ h))

  pub bars_sorted : Sorted Below3 (table_bars m bars)
  bars_sorted = those_sorted (has_bar m bars) Below3 (triples slots) (triples_sorted slots)

  pub in_numbers : (i : ℕ) → Memᴰ i (bar_numbers m bars) → (i < numbers) × (is_bar m bars i ≡ true)
  unfolding bar_numbers
  in_numbers i h =
      let w = those_elim (is_bar m bars) (from 0 numbers) i h in
      let z = from_elim numbers 0 i w.0 in
      (omega arith, T_true _ w.1)

  pub numbers_in : (i : ℕ) → i < numbers → is_bar m bars i ≡ true → Memᴰ i (bar_numbers m bars)
  unfolding bar_numbers
  numbers_in i l h = those_intro (is_bar m bars) (from 0 numbers) i (from_mem numbers 0 i zero-le (omega arith)) (true_T _ h)

  numbers_sorted : Sorted Below3 (each triple_of (bar_numbers m bars))
  unfolding bar_numbers
  numbers_sorted =
      each_sorted (bar_numbers m bars) (those_sorted (is_bar m bars) (λ a b. a < b) (from 0 numbers) (sorted_from numbers 0)) (λ i h. (in_numbers i h).0)

  pub numbered : each triple_of (bar_numbers m bars) ≡ table_bars m bars
  numbered = triples_same _ _ numbers_sorted bars_sorted forth back
    where
      slot : (n : ℕ) → n % slots < slots
      slot n = omega arith

      forth : (b : Triple) → Memᴰ b (each triple_of (bar_numbers m bars)) → Memᴰ b (table_bars m bars)
      forth b h =
          let w = each_elim triple_of (bar_numbers m bars) b h in
          let i = w.0 in
          let f = bar_facts m bars i (in_numbers i w.1.0).1 in
          subst (λ (c : Triple). Memᴰ c (table_bars m bars)) w.1.1
          (those_intro (has_bar m bars) (triples slots) (triple_of i) (triples_mem slots (reader_of i) (writer_of i) (between_of i) (slot (i / 1024)) (slot (i / slots)) (slot i))
          (has_of (triple_of i) f.0 f.1 f.2))

      back : (b : Triple) → Memᴰ b (table_bars m bars) → Memᴰ b (each triple_of (bar_numbers m bars))
      back b h =
          let w = those_elim (has_bar m bars) (triples slots) b h in
          let f = has_facts b w.1 in
          let r = from_elim slots 0 b.0 (across_left (from 0 slots) (across (from 0 slots) (from 0 slots)) b w.0) in
          let k = across_right (from 0 slots) (across (from 0 slots) (from 0 slots)) b w.0 in
          let x = from_elim slots 0 b.1.0 (across_left (from 0 slots) (from 0 slots) b.1 k) in
          let y = from_elim slots 0 b.1.1 (across_right (from 0 slots) (from 0 slots) b.1 k) in
          let i = number_of b.0 b.1.0 b.1.1 in
          let p = number_parts b.0 b.1.0 b.1.1 (omega (arith, r)) (omega (arith, x)) (omega (arith, y)) in
          let there : Has (mask_at bars i) (reader_of i) = rw (p.reader, p.writer, p.between) f.2 in
          let e : triple_of i ≡ b = ap₂ (λ (c : ℕ) (d : ℕ × ℕ). (c, d)) p.reader (ap₂ (λ (c d : ℕ). (c, d)) p.writer p.between) in
          subst (λ (c : Triple). Memᴰ c (each triple_of (bar_numbers m bars))) e
          (each_mem triple_of (bar_numbers m bars) i (numbers_in i p.low (bar_of m bars i (rw p.writer f.0) (rw p.between f.1) there)))

-- ---- the problem of a table is that of its list

module _ (m : ℕ) (before bars : List ℕ) where
  pub bar_listed : m ≤ slots → Wide bars → (r w v : ℕ) → (tabled m before bars).Bar r w v → Memᴰ {A = Triple} (r, (w, v)) (table_bars m bars)
  bar_listed fits wide r w v h =
      let low : r < slots = mem_lt slots (bar_at bars v w) r (wide (v * slots + w)) h.2 in
      let z = h.0 in
      let y = h.1 in
      those_intro (has_bar m bars) (triples slots) (r, (w, v)) (triples_mem slots r w v low (omega arith) (omega arith)) (has_of m bars (r, (w, v)) y z h.2)

  pub listed_bar : (r w v : ℕ) → Memᴰ {A = Triple} (r, (w, v)) (table_bars m bars) → (tabled m before bars).Bar r w v
  listed_bar r w v h = let f = has_facts m bars (r, (w, v)) (those_elim (has_bar m bars) (triples slots) (r, (w, v)) h).1 in (f.1, f.0, f.2)

  module _ (k : ℕ) where
    pub leaves_table : m ≤ slots → Wide bars → LeavesBy m before k (bar_numbers m bars) → (o : List ℕ) × Runs (tabled m before bars) (Below k) o
    leaves_table fits wide (o, r) = (
      o,
      runs_fewer (posed m (before_in m before) (each triple_of (bar_numbers m bars))) (tabled m before bars) refl (λ a b h. (before_is m before a b).1 h)
          (λ r w v h. subst (Memᴰ {A = Triple} (r, (w, v))) (sym (numbered m bars)) (bar_listed fits wide r w v h)) o (Below k) r,
    )

    pub table_leaves : (o : List ℕ) → Runs (tabled m before bars) (Below k) o → LeavesBy m before k (bar_numbers m bars)
    table_leaves o r = (
      o,
      runs_fewer (tabled m before bars) (posed m (before_in m before) (each triple_of (bar_numbers m bars))) refl (λ a b h. (before_is m before a b).0 h)
          (λ r w v h. listed_bar r w v (subst (Memᴰ {A = Triple} (r, (w, v))) (numbered m bars) h)) o (Below k) r,
    )

-- 02 §8: fewer bars
pub leaves_fewer : (m : ℕ) (before : List ℕ) (k : ℕ) → Fewer (Placeable m before k)
leaves_fewer m before k a b s (o, r) =
    (o, runs_fewer (posed m (before_in m before) b) (posed m (before_in m before) a) refl (λ x y h. h) (λ r w v h. sub_in s (r, (w, v)) h) o (Below k) r)
