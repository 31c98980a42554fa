-- The laws of specs/Decimal.antt.
--     decimal_less      a number below 10 is its digit
--     decimal_more      any other is the digits of its tenth and one digit more
--     decimal_value     the digits' value is the number again
--     decimal_unique    two numbers with the same digits are one
--     decimal_some      there is at least one digit
--     decimal_lead      the first digit of a number that is not 0 is not 0
--     length_more       a number from 10 on has one digit more than its tenth
--     decimal_length    a number below 10 ^ k has at most k digits, or one
-- Assumes nothing.
use mathlib.Core.Path.{◌≡◌, refl, sym, ap, ◌∙◌}
use mathlib.Core.Logic.{⊎_elim}
use mathlib.Core.List.{List, [], ◌∷◌, ◌++◌}
use Prim.Native.Nat.{ℕ, zero, suc, ◌+◌, ◌-◌, ◌*◌, ◌/◌, ◌%◌, ◌^◌, ◌≤◌, ◌<◌}
use native.Mathlib.Nat.{lt-suc_self, not-suc-le-zero, pow-suc}
use native.Mathlib.Omega.{arith}
use borrow.Author.Tests.{lt-ltb, le-ltb}
use lib.ListN.{length, get_or, length-append, get_or-append}
use Rattle.puts.specs.Decimal.{digit, digits_in, decimal}
use Rattle.puts.proofs.NumberLaws.{less_or_not}

-- ---- the digits, by one more

digits_less : (k n : ℕ) → n < 10 → digits_in (suc k) n ≡ digit n ∷ []
unfolding digits_in
digits_less k n h = rw (lt-ltb n 10 h, digits_in)

digits_more : (k n : ℕ) → 10 ≤ n → digits_in (suc k) n ≡ digits_in k (n / 10) ++ (digit (n % 10) ∷ [])
unfolding digits_in
digits_more k n h = rw (le-ltb n 10 h, digits_in)

-- any number of digits that is large enough gives the same
digits_same : (k j n : ℕ) → n < k → n < j → digits_in k n ≡ digits_in j n
digits_same zero j n h i = absurd (not-suc-le-zero h)
digits_same (suc k) zero n h i = absurd (not-suc-le-zero i)
digits_same (suc k) (suc j) n h i =
    ⊎_elim
    (λ (l : n < 10). digits_less k n l ∙ sym (digits_less j n l))
    (λ (l : 10 ≤ n). digits_more k n l ∙ ap (λ (d : List ℕ). d ++ (digit (n % 10) ∷ [])) (digits_same k j (n / 10) (omega arith) (omega arith)) ∙ sym (digits_more j n l))
    (less_or_not n 10)

pub decimal_less : (n : ℕ) → n < 10 → decimal n ≡ digit n ∷ []
unfolding decimal
decimal_less n h = digits_less n n h

pub decimal_more : (n : ℕ) → 10 ≤ n → decimal n ≡ decimal (n / 10) ++ (digit (n % 10) ∷ [])
unfolding decimal
decimal_more n h =
    digits_more n n h ∙ ap (λ (d : List ℕ). d ++ (digit (n % 10) ∷ [])) (digits_same n (suc (n / 10)) (n / 10) (omega arith) (omega arith))

-- what holds of one digit, and of a number if of its tenth, holds of all
module _ (P : ℕ → Type 0) (less : (n : ℕ) → n < 10 → P n) (more : (n : ℕ) → 10 ≤ n → P (n / 10) → P n) where
  by_tenths : (k n : ℕ) → n < k → P n
  by_tenths zero n h = absurd (not-suc-le-zero h)
  by_tenths (suc k) n h =
      ⊎_elim (λ (l : n < 10). less n l) (λ (l : 10 ≤ n). more n l (by_tenths k (n / 10) (omega arith))) (less_or_not n 10)

  pub decimal_each : (n : ℕ) → P n
  decimal_each n = by_tenths (suc n) n (lt-suc_self n)

-- ---- the value of digits

abbrev pub value_from : ℕ → List ℕ → ℕ
value_from v [] = v
value_from v (d ∷ l) = value_from (v * 10 + (d - 48)) l

abbrev pub value : List ℕ → ℕ
value l = value_from 0 l

value_more : (v : ℕ) (l : List ℕ) (d : ℕ) → value_from v (l ++ (d ∷ [])) ≡ value_from v l * 10 + (d - 48)
value_more v [] d = refl
value_more v (e ∷ l) d = value_more (v * 10 + (e - 48)) l d

pub decimal_value : (n : ℕ) → value (decimal n) ≡ n
decimal_value =
    decimal_each (λ (n : ℕ). value (decimal n) ≡ n)
    (λ (n : ℕ) (h : n < 10). rw (decimal_less n h) (omega arith))
    (λ (n : ℕ) (h : 10 ≤ n) (e : value (decimal (n / 10)) ≡ n / 10). rw (decimal_more n h, value_more 0 (decimal (n / 10)) (digit (n % 10)), e) (omega arith))

pub decimal_unique : (n m : ℕ) → decimal n ≡ decimal m → n ≡ m
decimal_unique n m e = sym (decimal_value n) ∙ ap value e ∙ decimal_value m

-- ---- how many digits, and the first

pub decimal_some : (n : ℕ) → 0 < length (decimal n)
decimal_some =
    decimal_each (λ (n : ℕ). 0 < length (decimal n))
    (λ (n : ℕ) (h : n < 10). rw (decimal_less n h) (omega arith))
    (λ (n : ℕ) (h : 10 ≤ n) (e : 0 < length (decimal (n / 10))). rw (decimal_more n h, length-append (decimal (n / 10)) (digit (n % 10) ∷ [])) (omega arith))

pub decimal_lead : (n : ℕ) → 0 < n → digit 0 < get_or (decimal n) 0 0
decimal_lead =
    decimal_each (λ (n : ℕ). 0 < n → digit 0 < get_or (decimal n) 0 0)
    (λ (n : ℕ) (h : n < 10) (p : 0 < n). rw (decimal_less n h) (omega arith))
    (λ (n : ℕ) (h : 10 ≤ n) (e : 0 < n / 10 → digit 0 < get_or (decimal (n / 10)) 0 0) (p : 0 < n). rw (decimal_more n h, get_or-append (decimal (n / 10)) (digit (n % 10) ∷ []) 0 0 (decimal_some (n / 10))) (e (omega arith)))

pub length_more : (n : ℕ) → 10 ≤ n → length (decimal n) ≡ length (decimal (n / 10)) + 1
length_more n h = rw (decimal_more n h) (length-append (decimal (n / 10)) (digit (n % 10) ∷ []))

pub decimal_length : (k n : ℕ) → n < 10 ^ suc k → length (decimal n) ≤ suc k
decimal_length zero n h = rw (decimal_less n h) (omega arith)
decimal_length (suc k) n h =
    ⊎_elim
    (λ (l : n < 10). rw (decimal_less n l) (omega arith))
    (λ (l : 10 ≤ n). rw (length_more n l) (omega (arith, decimal_length k (n / 10) (omega (arith, pow-suc 10 (suc k))))))
    (less_or_not n 10)
