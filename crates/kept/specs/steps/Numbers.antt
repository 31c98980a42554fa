-- A bar as one number, as the code goes through them. Laws: proofs/NumbersLaws.antt. Assumes nothing.
--     numbers                          how many numbers bars can have
--     number_of r w v                   the number of the bar (r, w, v): rising numbers are rising triples
--     reader_of writer_of between_of i    R, W and V of the bar with the number i; triple_of: the three of them
--     picks f s n                      the numbers that pass f among s, s + 1, and so on, n numbers
--     mask_at bars i                    the mask of the bar's W and V
--     is_bar m bars i                   whether the table has the bar i, W and V among the first m events
--     bar_numbers m bars                all of them
--     NextBar m bars from r            no bar from `from` on below r; and r is one, or there is none at all
--     Skips m i r                      where i is no bar, none from i on below r is one
--     BarStored ..                        three bytes stored
use Rattle.std.specs.Prelude.{ℕ, ◌+◌, ◌*◌, ◌/◌, ◌%◌, ◌<◌, ◌≤◌, ◌≡◌, Bool, true, false, ◌&&◌, List, ltb, set}
use Rattle.basis.specs.Test.{those, from}
use Rattle.sets.specs.Mask.{slots, mem}
use Rattle.gather.specs.Writers.{bar_at}
use Rattle.orders.specs.Posed.{Triple}

abbrev pub numbers : ℕ
numbers = 32768

abbrev pub number_of : ℕ → ℕ → ℕ → ℕ
number_of r w v = r * 1024 + w * slots + v

abbrev pub reader_of : ℕ → ℕ
reader_of i = i / 1024 % slots

abbrev pub writer_of : ℕ → ℕ
writer_of i = i / slots % slots

abbrev pub between_of : ℕ → ℕ
between_of i = i % slots

abbrev pub triple_of : ℕ → Triple
triple_of i = (reader_of i, (writer_of i, between_of i))

abbrev pub picks : (ℕ → Bool) → ℕ → ℕ → List ℕ
picks f s n = those f (from s n)

abbrev pub mask_at : List ℕ → ℕ → ℕ
mask_at bars i = bar_at bars (between_of i) (writer_of i)

unfoldable pub is_bar : ℕ → List ℕ → ℕ → Bool
is_bar m bars i = ltb (writer_of i) m && (ltb (between_of i) m && mem (mask_at bars i) (reader_of i))

unfoldable pub bar_numbers : ℕ → List ℕ → List ℕ
bar_numbers m bars = picks (is_bar m bars) 0 numbers

pub record NextBar (m : ℕ) (bars : List ℕ) (from r : ℕ) : Type 0 where
  pub low : from ≤ r
  pub high : r ≤ numbers
  pub none : (i : ℕ) → from ≤ i → i < r → is_bar m bars i ≡ false
  pub is : r < numbers → is_bar m bars r ≡ true

pub record Skips (m i r : ℕ) : Type 0 where
  pub on : i < r
  pub high : r ≤ numbers
  pub over : (bars : List ℕ) (j : ℕ) → i < j → j < r → is_bar m bars j ≡ false

pub record BarStored (out : List ℕ) (at i : ℕ) (out' : List ℕ) : Type 0 where
  pub stored : out' ≡ set (set (set out at (reader_of i)) (at + 1) (writer_of i)) (at + 2) (between_of i)
