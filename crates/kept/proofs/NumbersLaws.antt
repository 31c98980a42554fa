-- The laws of specs/steps/Numbers.antt. Assumes nothing.
--     picks_none picks_first picks_pass     nothing; the first number, in and out
--     picks_append                  the numbers in two parts
--     picks_last picks_gap          the last number, in; numbers that do not pass at the end
--     picks_few picks_count picks_part picks_room    how many are picked
--     picks_same                    tests that agree pick the same
--     number_parts number_unique number_below number_back    the parts of a number, and back
--     bar_facts bar_of              what `is_bar` tests
--     skip_reader skip_writer skip_one     where to look next
--     Passed, passed_none passed_more next_here next_end     the first bar from a number on
--     Counting, count-..            how many bars there are below one
--     Writing, writing-..           their bytes, in front of a buffer
use Prim.Native.Nat.{ℕ, zero, suc, ◌+◌, ◌-◌, ◌*◌, ◌/◌, ◌%◌, ◌<◌, ◌≤◌, zero-le}
use mathlib.Core.Path.{◌≡◌, refl, sym, ap, ap₂, subst, ◌∙◌}
use mathlib.Core.Bool.{Bool, true, false, ◌&&◌, and-false}
use mathlib.Core.Logic.{inl, inr}
use mathlib.Core.List.{List, [], ◌∷◌, ◌++◌, append-nil}
use native.Mathlib.Nat.{add-zero, zero-add, suc-add}
use native.Mathlib.Numerals.{add-one}
use native.Mathlib.Decide.{ℕ_discrete, dec_lt}
use native.Mathlib.Omega.{arith}
use borrow.Author.Tests.{ltb-true, lt-ltb, le-ltb}
use lib.Dec.{ltb}
use lib.ListN.{length, take, drop, set, length-append}
use lib.Seq.{sets, length-sets, sets-eq, take_at, drop_at, drop-drop}
use Rattle.basis.specs.Test.{those, each, from}
use Rattle.basis.proofs.BoolLaws.{by_bool, and_parts}
use Rattle.basis.proofs.ListLaws.{from_length, from_elim, each_more, each_length}
use Rattle.basis.proofs.ThoseLaws.{those_first, those_pass, those_length, those_same}
use Rattle.basis.proofs.FindLaws.{Then}
use Rattle.sets.specs.Mask.{slots, mem, Has}
use Rattle.orders.specs.Posed.{Triple}
use Rattle.orders.proofs.FirstLaws.{Tri, below, same, above, tri}
use Rattle.kept.specs.Bars.{bytes_of}
use Rattle.kept.specs.steps.Numbers.{numbers, number_of, reader_of, writer_of, between_of, triple_of, picks, mask_at, is_bar, bar_numbers, NextBar, Skips, BarStored}

-- ---- numbers that pass

module _ (f : ℕ → Bool) where
  pub picks_none : (s : ℕ) → picks f s 0 ≡ []
  unfolding from those
  picks_none s = refl

  pub picks_first : (s n : ℕ) → f s ≡ true → picks f s (suc n) ≡ s ∷ picks f (suc s) n
  unfolding from
  picks_first s n h = those_first f s (from (suc s) n) h

  pub picks_pass : (s n : ℕ) → f s ≡ false → picks f s (suc n) ≡ picks f (suc s) n
  unfolding from
  picks_pass s n h = those_pass f s (from (suc s) n) h

  pub picks_append : (n s k : ℕ) → picks f s (n + k) ≡ picks f s n ++ picks f (s + n) k
  picks_append zero s k = ap₂ (λ (x y : ℕ). picks f x y) (sym (add-zero s)) (zero-add k) ∙ ap (λ (l : List ℕ). l ++ picks f (s + 0) k) (sym (picks_none s))
  picks_append (suc n) s k =
      let e : suc s + n ≡ s + suc n = omega arith in
      let rest : picks f (suc s) (n + k) ≡ picks f (suc s) n ++ picks f (s + suc n) k = picks_append n (suc s) k ∙ ap (λ (x : ℕ). picks f (suc s) n ++ picks f x k) e in
      ap (picks f s) (suc-add n k)
      ∙ by_bool (f s) (λ h. picks_first s (n + k) h ∙ ap (λ (l : List ℕ). s ∷ l) rest ∙ ap (λ (l : List ℕ). l ++ picks f (s + suc n) k) (sym (picks_first s n h)))
      (λ h. picks_pass s (n + k) h ∙ rest ∙ ap (λ (l : List ℕ). l ++ picks f (s + suc n) k) (sym (picks_pass s n h)))

  pub picks_last : (n : ℕ) → f n ≡ true → picks f 0 (n + 1) ≡ picks f 0 n ++ (n ∷ [])
  picks_last n h =
      picks_append n 0 1 ∙ ap (λ (l : List ℕ). picks f 0 n ++ l) (ap (λ (x : ℕ). picks f x 1) (zero-add n) ∙ picks_first n 0 h ∙ ap (λ (l : List ℕ). n ∷ l) (picks_none (suc n)))

  picks_nothing : (n s : ℕ) → ((i : ℕ) → s ≤ i → i < s + n → f i ≡ false) → picks f s n ≡ []
  picks_nothing zero s h = picks_none s
  picks_nothing (suc n) s h = picks_pass s n (h s (omega arith) (omega arith)) ∙ picks_nothing n (suc s) (λ i a b. h i (omega arith) (omega arith))

  -- between n and k none passes
  pub picks_gap : (n k : ℕ) → n ≤ k → ((i : ℕ) → n ≤ i → i < k → f i ≡ false) → picks f 0 k ≡ picks f 0 n
  picks_gap n k l h =
      let e : k ≡ n + (k - n) = omega arith in
      ap (picks f 0) e ∙ picks_append n 0 (k - n)
      ∙ ap (λ (j : List ℕ). picks f 0 n ++ j) (ap (λ (x : ℕ). picks f x (k - n)) (zero-add n) ∙ picks_nothing (k - n) n (λ i a b. h i a (omega arith)))
      ∙ append-nil (picks f 0 n)

  -- the same of what is left from n on below an end
  pub picks_later : (n k z : ℕ) → n ≤ k → k ≤ z → ((i : ℕ) → n ≤ i → i < k → f i ≡ false) → picks f n (z - n) ≡ picks f k (z - k)
  picks_later n k z l u h =
      let e : z - n ≡ (k - n) + (z - k) = omega arith in
      let g : n + (k - n) ≡ k = omega arith in
      ap (picks f n) e ∙ picks_append (k - n) n (z - k)
      ∙ ap₂ (λ (i : List ℕ) (x : ℕ). i ++ picks f x (z - k)) (picks_nothing (k - n) n (λ i a b. h i a (omega arith))) g

  -- how many there are
  pub picks_few : (n s : ℕ) → length (picks f s n) ≤ n
  picks_few n s = let a = those_length f (from s n) in let b = from_length s n in omega arith

  pub picks_count : (n : ℕ) → f n ≡ true → length (picks f 0 (n + 1)) ≡ length (picks f 0 n) + 1
  picks_count n h = ap length (picks_last n h) ∙ length-append (picks f 0 n) (n ∷ [])

  pub picks_part : (n k : ℕ) → n ≤ k → length (picks f 0 n) ≤ length (picks f 0 k)
  picks_part n k l =
      let e : n + (k - n) ≡ k = omega arith in
      let a = length-append (picks f 0 n) (picks f (0 + n) (k - n)) in
      let b : length (picks f 0 k) ≡ length (picks f 0 n ++ picks f (0 + n) (k - n)) = ap (λ (x : ℕ). length (picks f 0 x)) (sym e) ∙ ap length (picks_append n 0 (k - n)) in
      omega arith

  -- where one more passes there are more in all
  pub picks_room : (n k : ℕ) → n < k → f n ≡ true → length (picks f 0 n) + 1 ≤ length (picks f 0 k)
  picks_room n k l h = let a = picks_count n h in let b = picks_part (n + 1) k (omega arith) in omega arith

pub picks_same : (f g : ℕ → Bool) (n s : ℕ) → ((i : ℕ) → s ≤ i → i < s + n → f i ≡ g i) → picks f s n ≡ picks g s n
picks_same f g n s h = those_same f g (from s n) (λ i m. let w = from_elim n s i m in h i w.0 w.1)

-- ---- bars as numbers

-- by (R, W, V)
abbrev pub Below3 : Triple → Triple → Type 0
Below3 = Then (λ a b. a < b) (Then (λ a b. a < b) (λ a b. a < b))

pub record Parts (r w v : ℕ) : Type 0 where
  pub low : number_of r w v < numbers
  pub reader : reader_of (number_of r w v) ≡ r
  pub writer : writer_of (number_of r w v) ≡ w
  pub between : between_of (number_of r w v) ≡ v

pub number_parts : (r w v : ℕ) → r < slots → w < slots → v < slots → Parts r w v
number_parts r w v a b c = record { low = omega arith; reader = omega arith; writer = omega arith; between = omega arith }

split_cell : (a b c d : ℕ) → b < slots → d < slots → a * slots + b ≡ c * slots + d → (a ≡ c) × (b ≡ d)
split_cell a b c d x y e = (omega arith, omega arith)

pub number_back : (i : ℕ) → i < numbers → number_of (reader_of i) (writer_of i) (between_of i) ≡ i
number_back i l = omega arith

-- a bar is known by the place of its W and V, and its R
pub number_unique : (i j : ℕ) → i < numbers → j < numbers → between_of i * slots + writer_of i ≡ between_of j * slots + writer_of j
    → reader_of i ≡ reader_of j → i ≡ j
number_unique i j a b p q =
    let e = split_cell (between_of i) (writer_of i) (between_of j) (writer_of j) (omega arith) (omega arith) p in
    sym (number_back i a) ∙ rw (q, e.0, e.1) (number_back j b)

-- rising numbers are rising triples
module _ (r w v r' w' v' : ℕ) (a : w < slots) (b : v < slots) (c : w' < slots) (d : v' < slots) (l : number_of r w v < number_of r' w' v') where
  reader_rises : r' < r → ⊥
  reader_rises h = omega arith

  writer_rises : r ≡ r' → w' < w → ⊥
  writer_rises e h = omega arith

  between_rises : r ≡ r' → w ≡ w' → v < v'
  between_rises e h = omega arith

pub number_below : (i j : ℕ) → i < numbers → j < numbers → i < j → Below3 (triple_of i) (triple_of j)
number_below i j a b l = go (tri (reader_of i) (reader_of j)) (tri (writer_of i) (writer_of j))
  where
    slot : (n : ℕ) → n % slots < slots
    slot n = omega arith

    rises : number_of (reader_of i) (writer_of i) (between_of i) < number_of (reader_of j) (writer_of j) (between_of j)
    rises = rw (number_back i a, number_back j b) l

    go : Tri (reader_of i) (reader_of j) → Tri (writer_of i) (writer_of j) → Below3 (triple_of i) (triple_of j)
    go (below x) d = inl x
    go (above x) d = absurd (reader_rises (reader_of i) (writer_of i) (between_of i) (reader_of j) (writer_of j) (between_of j) (slot (i / slots)) (slot i) (slot (j / slots)) (slot j) rises x)
    go (same x) (below y) = inr (sym x, inl y)
    go (same x) (above y) = absurd (writer_rises (reader_of i) (writer_of i) (between_of i) (reader_of j) (writer_of j) (between_of j) (slot (i / slots)) (slot i) (slot (j / slots)) (slot j) rises x y)
    go (same x) (same y) = inr (sym x, inr (sym y, between_rises (reader_of i) (writer_of i) (between_of i) (reader_of j) (writer_of j) (between_of j) (slot (i / slots)) (slot i) (slot (j / slots)) (slot j) rises x y))

module _ (m : ℕ) (bars : List ℕ) (i : ℕ) where
  pub bar_facts : is_bar m bars i ≡ true → (writer_of i < m) × (between_of i < m) × Has (mask_at bars i) (reader_of i)
  unfolding is_bar
  bar_facts h =
      let a = and_parts (ltb (writer_of i) m) (ltb (between_of i) m && mem (mask_at bars i) (reader_of i)) h in
      let b = and_parts (ltb (between_of i) m) (mem (mask_at bars i) (reader_of i)) a.1 in
      (ltb-true (writer_of i) m a.0, ltb-true (between_of i) m b.0, b.1)

  pub bar_of : writer_of i < m → between_of i < m → Has (mask_at bars i) (reader_of i) → is_bar m bars i ≡ true
  unfolding is_bar
  bar_of a b h = ap₂ (λ (x y : Bool). x && y) (lt-ltb (writer_of i) m a) (ap₂ (λ (x y : Bool). x && y) (lt-ltb (between_of i) m b) h)

-- ---- where to look next

module _ (m : ℕ) (bars : List ℕ) (i : ℕ) where
  no_writer : m ≤ writer_of i → is_bar m bars i ≡ false
  unfolding is_bar
  no_writer h = ap (λ (x : Bool). x && (ltb (between_of i) m && mem (mask_at bars i) (reader_of i))) (le-ltb (writer_of i) m h)

  no_between : m ≤ between_of i → is_bar m bars i ≡ false
  unfolding is_bar
  no_between h =
      ap (λ (x : Bool). ltb (writer_of i) m && (x && mem (mask_at bars i) (reader_of i))) (le-ltb (between_of i) m h) ∙ and-false (ltb (writer_of i) m)

-- the numbers with the R of i and a W no lower; with its R and W and a V no lower
writer_on : (i j : ℕ) → i < j → j < (i / 1024 + 1) * 1024 → writer_of i ≤ writer_of j
writer_on i j a b = omega arith

between_on : (i j : ℕ) → i < j → j < (i / slots + 1) * slots → between_of i ≤ between_of j
between_on i j a b = omega arith

module _ {m i : ℕ} (low : i < numbers) where
  pub skip_reader : m ≤ writer_of i → Skips m i ((i / 1024 + 1) * 1024)
  skip_reader h =
      record { on = omega arith; high = omega arith; over = λ bars j a b. no_writer m bars j (let w = writer_on i j a b in omega (arith, w, h)) }

  pub skip_writer : m ≤ between_of i → Skips m i ((i / slots + 1) * slots)
  skip_writer h =
      record { on = omega arith; high = omega arith; over = λ bars j a b. no_between m bars j (let w = between_on i j a b in omega (arith, w, h)) }

  pub skip_one : Skips m i (i + 1)
  skip_one = record { on = omega arith; high = omega arith; over = λ bars j a b. absurd (omega arith) }

-- ---- the first bar from a number on

-- from `from` on below i there is none
pub record Passed (m : ℕ) (bars : List ℕ) (from i : ℕ) : Type 0 where
  pub low : from ≤ i
  pub high : i ≤ numbers
  pub none : (j : ℕ) → from ≤ j → j < i → is_bar m bars j ≡ false

pub passed_none : {m : ℕ} {bars : List ℕ} {from : ℕ} → from ≤ numbers → Passed m bars from from
passed_none h = record { low = omega arith; high = h; none = λ j a b. absurd (omega arith) }

module _ {m : ℕ} {bars : List ℕ} {from i : ℕ} (p : Passed m bars from i) where
  pub passed_more : is_bar m bars i ≡ false → {r : ℕ} → Skips m i r → Passed m bars from r
  passed_more h {r} s =
      record {
        low = let a = p.low in let b = s.on in omega arith;
        high = s.high;
        none = λ j a b. go j a b (dec_lt j i) (ℕ_discrete j i);
      }
    where
      go : (j : ℕ) → from ≤ j → j < r → Dec (j < i) → Dec (j ≡ i) → is_bar m bars j ≡ false
      go j a b (yes l) d = p.none j a l
      go j a b (no l) (yes e) = ap (is_bar m bars) e ∙ h
      go j a b (no l) (no e) = s.over bars j (omega arith) b

  pub next_here : is_bar m bars i ≡ true → NextBar m bars from i
  next_here h = record { low = p.low; high = p.high; none = p.none; is = λ l. h }

  pub next_end : numbers ≤ i → NextBar m bars from numbers
  next_end h =
      let e : i ≡ numbers = let z = p.high in omega arith in
      subst (NextBar m bars from) e (record { low = p.low; high = p.high; none = p.none; is = λ l. absurd (omega arith) })

module _ (m : ℕ) (bars : List ℕ) where
  pub bars_picks : length (picks (is_bar m bars) 0 numbers) ≡ length (bar_numbers m bars)
  unfolding bar_numbers
  bars_picks = refl

  pub bars_few : length (bar_numbers m bars) ≤ numbers
  unfolding bar_numbers
  bars_few = picks_few (is_bar m bars) numbers 0

-- ---- three bytes a bar

pub bytes_length : (l : List Triple) → length (bytes_of l) ≡ length l * 3
unfolding bytes_of
bytes_length [] = refl
bytes_length (b ∷ l) = let r = bytes_length l in omega arith

bytes_last : (l : List Triple) (b : Triple) → bytes_of (l ++ (b ∷ [])) ≡ bytes_of l ++ (b.0 ∷ b.1.0 ∷ b.1.1 ∷ [])
unfolding bytes_of
bytes_last [] b = refl
bytes_last (c ∷ l) b = ap (λ (x : List ℕ). c.0 ∷ c.1.0 ∷ c.1.1 ∷ x) (bytes_last l b)

unfoldable pub three_bytes : List ℕ → List ℕ
three_bytes l = bytes_of (each triple_of l)

three_length : (l : List ℕ) → length (three_bytes l) ≡ length l * 3
unfolding three_bytes
three_length l = bytes_length (each triple_of l) ∙ ap (λ (n : ℕ). n * 3) (each_length triple_of l)

three_last : (l : List ℕ) (i : ℕ) → three_bytes (l ++ (i ∷ [])) ≡ three_bytes l ++ (reader_of i ∷ writer_of i ∷ between_of i ∷ [])
unfolding three_bytes
three_last l i = ap bytes_of (each_more triple_of l i) ∙ bytes_last (each triple_of l) (triple_of i)

-- the bytes of l, and then the buffer as it was
pub record Written (l out₀ : List ℕ) (at : ℕ) (out : List ℕ) : Type 0 where
  pub place : at ≡ length l * 3
  pub size : length out ≡ length out₀
  pub bytes : out ≡ three_bytes l ++ drop (length l * 3) out₀

pub written_none : (out : List ℕ) → Written [] out 0 out
unfolding three_bytes bytes_of each
written_none out = record { place = refl; size = refl; bytes = refl }

pub written_more : {l out₀ : List ℕ} {at : ℕ} {out out' : List ℕ} {i : ℕ} → Written l out₀ at out → (length l + 1) * 3 ≤ length out₀ → BarStored out at i out'
    → Written (l ++ (i ∷ [])) out₀ (at + 3) out'
written_more {l} {out₀} {at} {out} {out'} {i} w room s =
    record {
      place = let a = length-append l (i ∷ []) in let b = w.place in omega arith;
      size = let a = length-sets out at three in let b = w.size in ap length kept ∙ a ∙ b;
      bytes = kept ∙ sets-eq three out at (let b = w.place in let z = w.size in omega arith) ∙ ap₂ (λ (x y : List ℕ). x ++ three ++ y) head tail ∙ ap (λ (x : List ℕ). x ++ drop (length (l ++ (i ∷ [])) * 3) out₀) (sym (three_last l i));
    }
  where
    three : List ℕ
    three = reader_of i ∷ writer_of i ∷ between_of i ∷ []

    kept : out' ≡ sets out at three
    kept = let e : at + 2 ≡ suc (suc at) = omega arith in s.stored ∙ ap₂ (λ (x y : ℕ). set (set (set out at (reader_of i)) x (writer_of i)) y (between_of i)) (add-one at) e

    seam : length (three_bytes l) ≡ at
    seam = three_length l ∙ sym w.place

    head : take at out ≡ three_bytes l
    head = ap (take at) w.bytes ∙ take_at (three_bytes l) (drop (length l * 3) out₀) at seam

    tail : drop (at + 3) out ≡ drop (length (l ++ (i ∷ [])) * 3) out₀
    tail =
        let e : length l * 3 + 3 ≡ length (l ++ (i ∷ [])) * 3 = let a = length-append l (i ∷ []) in omega arith in
        sym (drop-drop 3 at out) ∙ ap (drop 3) (ap (drop at) w.bytes ∙ drop_at (three_bytes l) (drop (length l * 3) out₀) at seam)
        ∙ drop-drop 3 (length l * 3) out₀ ∙ ap (λ (x : ℕ). drop x out₀) e

written_end : (m : ℕ) (bars : List ℕ) {out₀ : List ℕ} {at : ℕ} {out : List ℕ} → Written (picks (is_bar m bars) 0 numbers) out₀ at out
    → out ≡ bytes_of (each triple_of (bar_numbers m bars)) ++ drop (length (bar_numbers m bars) * 3) out₀
unfolding bar_numbers three_bytes
written_end m bars w = w.bytes

-- ---- loops from bar to bar

-- i is a bar, or the end
-- n bars below i
pub record Counting (m : ℕ) (bars : List ℕ) (n i : ℕ) : Type 0 where
  pub high : i ≤ numbers
  pub count : n ≡ length (picks (is_bar m bars) 0 i)

-- the bars below i are written
pub record Writing (m : ℕ) (bars out₀ : List ℕ) (at : ℕ) (out : List ℕ) (i : ℕ) : Type 0 where
  pub high : i ≤ numbers
  pub written : Written (picks (is_bar m bars) 0 i) out₀ at out

module _ {m : ℕ} {bars : List ℕ} where
  skipped : (i : ℕ) {j : ℕ} → NextBar m bars i j → picks (is_bar m bars) 0 j ≡ picks (is_bar m bars) 0 i
  skipped i {j} n = picks_gap (is_bar m bars) i j n.low n.none

  pub count_start : Counting m bars 0 0
  count_start = record { high = zero-le; count = sym (ap length (picks_none (is_bar m bars) 0)) }

  pub count_end : {n : ℕ} → Counting m bars n numbers → n ≡ length (bar_numbers m bars)
  count_end c = c.count ∙ bars_picks m bars

  module _ {n i : ℕ} (c : Counting m bars n i) where
    -- on to the next bar
    pub count_skip : {j : ℕ} → NextBar m bars i j → Counting m bars n j
    count_skip x = record { high = x.high; count = c.count ∙ sym (ap length (skipped i x)) }

    pub count_more : i < numbers → is_bar m bars i ≡ true → Counting m bars (n + 1) (i + 1)
    count_more l h =
        record {
          high = omega arith;
          count = ap (λ (y : ℕ). y + 1) c.count ∙ sym (length-append (picks (is_bar m bars) 0 i) (i ∷ [])) ∙ sym (ap length (picks_last (is_bar m bars) i h));
        }

    pub count_few : n ≤ i
    count_few = let a = c.count in let b = picks_few (is_bar m bars) i 0 in omega arith

  pub writing_start : (out : List ℕ) → Writing m bars out 0 out 0
  writing_start out = record { high = zero-le; written = rw (picks_none (is_bar m bars) 0) (written_none out) }

  pub writing_end : {out₀ out : List ℕ} {at : ℕ} → Writing m bars out₀ at out numbers → out ≡ bytes_of (each triple_of (bar_numbers m bars)) ++ drop (length (bar_numbers m bars) * 3) out₀
  writing_end w = written_end m bars w.written

  module _ {out₀ : List ℕ} {at : ℕ} {out : List ℕ} {i : ℕ} (w : Writing m bars out₀ at out i) where
    -- on to the next bar
    pub writing_skip : {j : ℕ} → NextBar m bars i j → Writing m bars out₀ at out j
    writing_skip x = record { high = x.high; written = rw (skipped i x) w.written }

    room_for : i < numbers → is_bar m bars i ≡ true → length (bar_numbers m bars) * 3 ≤ length out₀ → (length (picks (is_bar m bars) 0 i) + 1) * 3 ≤ length out₀
    room_for l h r = let a = picks_room (is_bar m bars) i numbers l h in let b = bars_picks m bars in omega arith

    pub writing_room : i < numbers → is_bar m bars i ≡ true → length (bar_numbers m bars) * 3 ≤ length out₀ → at + 3 ≤ length out
    writing_room l h r = let a = room_for l h r in let b = w.written.place in let c = w.written.size in omega arith

    pub writing_low : at ≤ i * 3
    writing_low = let a = w.written.place in let b = picks_few (is_bar m bars) i 0 in omega arith

    pub writing_more : i < numbers → is_bar m bars i ≡ true → length (bar_numbers m bars) * 3 ≤ length out₀ → {out' : List ℕ} → BarStored out at i out'
        → Writing m bars out₀ (at + 3) out' (i + 1)
    writing_more l h r s = record { high = omega arith; written = rw (picks_last (is_bar m bars) i h) (written_more w.written (room_for l h r) s) }
