-- The pivots of a closure, and two of them done in one pass: what the private steps of `close` promise.
-- Laws: proofs/SweepLaws.antt. Assumes nothing.
--     succ_of rows e           row e of a table
--     absorb x k row          the row x after pivot k, whose row is `row`
--     pivot k f e             row e after pivot k, where the rows were f
--     Swept n k j rows rows'  each of the first n rows after pivot k and then pivot j, and the others as they were
--     noted s e x             the set s with e, where e's row x is not empty
--     Pivots n rows r         the set r has numbers below n alone; one that it leaves out is in none of the first n rows, or its own row is empty
--     Second s k r            r is a member of the set s, or k where s is empty
use Rattle.std.specs.Prelude.{◌≡◌, false, List, ℕ, ◌<◌, eqb, get_or, length, drop}
use Rattle.std.specs.Int.Bits.{bit_or}
use Rattle.sets.specs.Mask.{mem, Has, pick, insert}

abbrev pub succ_of : List ℕ → ℕ → ℕ
succ_of rows e = get_or rows e 0

unfoldable pub absorb : ℕ → ℕ → ℕ → ℕ
absorb x k row = pick (mem x k) (bit_or x row) x

abbrev pub pivot : ℕ → (ℕ → ℕ) → ℕ → ℕ
pivot k f e = absorb (f e) k (f k)

pub record Swept (n k j : ℕ) (rows rows' : List ℕ) : Type 0 where
  pub size : length rows' ≡ length rows
  pub each : (e : ℕ) → e < n → get_or rows' e 0 ≡ pivot j (pivot k (succ_of rows)) e
  pub rest : drop n rows' ≡ drop n rows

unfoldable pub noted : ℕ → ℕ → ℕ → ℕ
noted s e x = pick (eqb x 0) s (insert s e)

pub record Pivots (n : ℕ) (rows : List ℕ) (r : ℕ) : Type 0 where
  pub below : (p : ℕ) → Has r p → p < n
  pub idle : (p : ℕ) → p < n → mem r p ≡ false → (e : ℕ) → e < n → Has (get_or rows e 0) p → get_or rows p 0 ≡ 0

pub record Second (s k r : ℕ) : Type 0 where
  pub member : 0 < s → Has s r
  pub none : s ≡ 0 → r ≡ k
