-- A set of events as one number (01, "a set of placed events is held as one number, a bit for each event").
-- Laws: proofs/MaskLaws.antt. Assumes nothing.
--     slots         how many events a number of the code can hold
--     mem s e       whether e is a member of s
--     Has s e       that it is
--     Within a b    every member of a is one of b
--     insert s e    s with e
--     remove s e    s without e
--     full n        the set of all numbers below n
--     above s k     the members from k up, each k lower
--     Lowest s r    r is the least member of s, or `slots` where s is empty
--     Rest s from n r    r has the numbers from `from` on, below n, that are not in s
use Rattle.std.specs.Prelude.{◌≡◌, Bool, true, false, ℕ, ◌+◌, ◌-◌, ◌/◌, ◌%◌, ◌^◌, ◌<◌, ◌≤◌, eqb}

abbrev pub slots : ℕ
slots = 32

-- 01: "a bit for each event"
unfoldable pub mem : ℕ → ℕ → Bool
mem s e = eqb (s / 2 ^ e % 2) 1

abbrev pub Has : ℕ → ℕ → Type 0
Has s e = mem s e ≡ true

abbrev pub Within : ℕ → ℕ → Type 0
Within a b = (e : ℕ) → Has a e → Has b e

abbrev pub pick : Bool → ℕ → ℕ → ℕ
pick true a b = a
pick false a b = b

unfoldable pub insert : ℕ → ℕ → ℕ
insert s e = pick (mem s e) s (s + 2 ^ e)

unfoldable pub remove : ℕ → ℕ → ℕ
remove s e = pick (mem s e) (s - 2 ^ e) s

abbrev pub full : ℕ → ℕ
full n = 2 ^ n - 1

abbrev pub above : ℕ → ℕ → ℕ
above s k = s / 2 ^ k

pub record Lowest (s r : ℕ) : Type 0 where
  pub member : 0 < s → Has s r
  pub least : (d : ℕ) → d < r → mem s d ≡ false
  pub none : s ≡ 0 → r ≡ slots

pub record Rest (s from n r : ℕ) : Type 0 where
  pub only : (d : ℕ) → Has r d → (from ≤ d) × (d < n) × (mem s d ≡ false)
  pub all : (d : ℕ) → from ≤ d → d < n → mem s d ≡ false → Has r d
