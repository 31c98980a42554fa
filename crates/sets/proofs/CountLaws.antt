-- The laws of specs/Count.antt, and the size of a set. Assumes nothing.
--     count_same count_none count_all count_more count_mono count_le count_full    how many pass, by what passes
--     size_insert size_full size_first    the number of a set's members
use mathlib.Core.Path.{◌≡◌, refl, sym, ap, ap₂, ◌∙◌}
use mathlib.Core.Bool.{Bool, true, false, ◌||◌, or-false, false≢true}
use Prim.Native.Nat.{ℕ, zero, suc, ◌+◌, ◌-◌, ◌≤◌, ◌<◌, zero-le}
use native.Mathlib.Nat.{not-suc-le-zero, le_trans, add-suc, le_of_eq, zero-add, add-zero, le-add_left, lt_irrefl}
use native.Mathlib.Decide.{ℕ_discrete}
use native.Mathlib.Numerals.{one-add}
use native.Mathlib.Omega.{arith}
use borrow.Author.Tests.{eq-eqb, ne_eqb}
use lib.Dec.{eqb}
use lib.Pow.{ones_lt}
use Rattle.basis.proofs.BoolLaws.{by_bool}
use Rattle.sets.specs.Mask.{mem, pick, insert, full}
use Rattle.sets.specs.Count.{count}
use Rattle.sets.proofs.MaskLaws.{mem_insert, mem_full, mem_beyond}

pub count_same : (f g : ℕ → Bool) (n : ℕ) → ((x : ℕ) → x < n → f x ≡ g x) → count f n ≡ count g n
unfolding count
count_same f g zero h = refl
count_same f g (suc n) h = ap₂ (λ (b : Bool) (k : ℕ). pick b 1 0 + k) (h n (omega arith)) (count_same f g n (λ x l. h x (omega arith)))

pub count_none : (f : ℕ → Bool) (n : ℕ) → ((x : ℕ) → x < n → f x ≡ false) → count f n ≡ 0
unfolding count
count_none f zero h = refl
count_none f (suc n) h = ap₂ (λ (b : Bool) (k : ℕ). pick b 1 0 + k) (h n (omega arith)) (count_none f n (λ x l. h x (omega arith)))

pub count_all : (f : ℕ → Bool) (n : ℕ) → ((x : ℕ) → x < n → f x ≡ true) → count f n ≡ n
unfolding count
count_all f zero h = refl
count_all f (suc n) h = ap₂ (λ (b : Bool) (k : ℕ). pick b 1 0 + k) (h n (omega arith)) (count_all f n (λ x l. h x (omega arith))) ∙ one-add n

one_more : (k : ℕ) → 1 + k ≡ suc (0 + k)
one_more k = omega arith

module _ (f g : ℕ → Bool) where
  -- one more passes
  pub count_more : (n y : ℕ) → y < n → f y ≡ false → ((x : ℕ) → x < n → g x ≡ (f x || eqb x y)) → count g n ≡ suc (count f n)
  unfolding count
  count_more zero y l o h = absurd (not-suc-le-zero l)
  count_more (suc n) y l o h = go (ℕ_discrete y n) (λ l'. count_more n y l' o (λ x k. h x (omega arith)))
    where
      go : Dec (y ≡ n) → (y < n → count g n ≡ suc (count f n)) → pick (g n) 1 0 + count g n ≡ suc (pick (f n) 1 0 + count f n)
      go (yes p) rest =
          let was : f n ≡ false = ap f (sym p) ∙ o in
          let now : g n ≡ true = h n (omega arith) ∙ ap₂ (λ (a b : Bool). a || b) was (eq-eqb n y (sym p)) in
          let below : count g n ≡ count f n = count_same g f n (λ x k. h x (omega arith) ∙ ap (λ (b : Bool). f x || b) (ne_eqb x y (λ e. omega arith)) ∙ or-false (f x)) in
          ap₂ (λ (b : Bool) (k : ℕ). pick b 1 0 + k) now below ∙ one_more (count f n) ∙ sym (ap (λ (b : Bool). suc (pick b 1 0 + count f n)) was)
      go (no q) rest =
          let same : g n ≡ f n = h n (omega arith) ∙ ap (λ (b : Bool). f n || b) (ne_eqb n y (λ e. omega arith)) ∙ or-false (f n) in
          ap₂ (λ (b : Bool) (k : ℕ). pick b 1 0 + k) same (rest (omega arith)) ∙ add-suc (pick (f n) 1 0) (count f n)

pub count_le : (f : ℕ → Bool) (n : ℕ) → count f n ≤ n
unfolding count
count_le f zero = zero-le
count_le f (suc n) = go (f n) (count_le f n)
  where
    go : (b : Bool) → count f n ≤ n → pick b 1 0 + count f n ≤ suc n
    go true h = omega arith
    go false h = omega arith

-- what passes f passes g
pub count_mono : (f g : ℕ → Bool) (n : ℕ) → ((x : ℕ) → x < n → f x ≡ true → g x ≡ true) → count f n ≤ count g n
unfolding count
count_mono f g zero h = zero-le
count_mono f g (suc n) h = go (f n) (g n) (h n (omega arith)) (count_mono f g n (λ x l. h x (omega arith)))
  where
    go : (a b : Bool) → (a ≡ true → b ≡ true) → count f n ≤ count g n → pick a 1 0 + count f n ≤ pick b 1 0 + count g n
    go true true k l = omega arith
    go true false k l = absurd (false≢true (k refl))
    go false b k l = le_trans (le_of_eq (zero-add (count f n))) (le_trans l (le-add_left (count g n) (pick b 1 0)))

-- all pass where n do
pub count_full : (f : ℕ → Bool) (n : ℕ) → count f n ≡ n → (x : ℕ) → x < n → f x ≡ true
unfolding count
count_full f zero h x l = absurd (not-suc-le-zero l)
count_full f (suc n) h x l = by_bool (f n) (λ y. go y (λ k. count_full f n (below y) x k) (ℕ_discrete x n)) (λ y. absurd (lt_irrefl n (few_of y)))
  where
    below : f n ≡ true → count f n ≡ n
    below y = let e : 1 + count f n ≡ suc n = ap (λ (b : Bool). pick b 1 0 + count f n) (sym y) ∙ h in omega arith

    few_of : f n ≡ false → n < n
    few_of y = let e : 0 + count f n ≡ suc n = ap (λ (b : Bool). pick b 1 0 + count f n) (sym y) ∙ h in omega (arith, count_le f n)

    go : f n ≡ true → (x < n → f x ≡ true) → Dec (x ≡ n) → f x ≡ true
    go y rest (yes p) = ap f p ∙ y
    go y rest (no q) = rest (omega arith)

-- nothing passes from k on
pub count_beyond : (f : ℕ → Bool) (k j : ℕ) → ((x : ℕ) → k ≤ x → f x ≡ false) → count f (k + j) ≡ count f k
unfolding count
count_beyond f k zero h = ap (count f) (add-zero k)
count_beyond f k (suc j) h = ap (count f) (add-suc k j) ∙ ap (λ (b : Bool). pick b 1 0 + count f (k + j)) (h (k + j) (omega arith)) ∙ zero-add (count f (k + j)) ∙ count_beyond f k j h

-- ---- the members of a set

-- an event that is not in s makes it one larger
pub size_insert : (n s e : ℕ) → e < n → mem s e ≡ false → count (mem (insert s e)) n ≡ suc (count (mem s) n)
size_insert n s e l h = count_more (mem s) (mem (insert s e)) n e l h (λ d k. mem_insert s e d)

pub size_full : (n : ℕ) → count (mem (full n)) n ≡ n
size_full n = count_all (mem (full n)) n (λ e l. mem_full n e l)

-- the first k of n events
pub size_first : (k n : ℕ) → k ≤ n → count (mem (full k)) n ≡ k
size_first k n l =
    let e : k + (n - k) ≡ n = omega arith in
    ap (count (mem (full k))) (sym e) ∙ count_beyond (mem (full k)) k (n - k) (λ x h. mem_beyond k (full k) x (ones_lt k) h) ∙ size_full k
