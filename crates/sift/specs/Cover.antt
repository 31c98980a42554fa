-- Who writes a byte, noticed without a jump. Laws: proofs/CoverLaws.antt. Assumes nothing.
--     near_room                    the flat bytes of which it is known who writes them
--     Covered k n x l l'          l' is l, of which the masks at the n places from k on have gained x
use Rattle.std.specs.Prelude.{◌≡◌, cond, List, ℕ, ◌+◌, ◌<◌, ltb, leb, length, get_or}
use Rattle.std.specs.Int.Bits.{bit_or}
use Rattle.basis.specs.Test.{◌and◌}

abbrev pub near_room : ℕ
near_room = 64

pub record Covered (k n x : ℕ) (l l' : List ℕ) : Type 0 where
  pub size : length l' ≡ length l
  pub each : (a : ℕ) → a < length l → get_or l' a 0 ≡ cond (leb k a and ltb a (k + n)) (bit_or (get_or l a 0) x) (get_or l a 0)
