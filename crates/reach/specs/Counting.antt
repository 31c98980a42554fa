-- What the private step of a count promises. No public contract cites this file. Laws: proofs/TallyLaws.antt, TalliedLaws.antt. Assumes nothing.
--     Counting P k ..    the end of a walk that counts
use Rattle.std.specs.Prelude.{Option, ℕ, ◌-◌, ◌≡◌, List, length, drop}
use Rattle.sets.specs.Mask.{full}
use Rattle.marks.specs.Table.{bytes_for}
use Rattle.orders.specs.Problem.{Problem}
use Rattle.reach.specs.Reachable.{CountIs}

pub record Counting (P : Problem) (k : ℕ) (table : List ℕ) (limit : ℕ) (r : Option ℕ) (table' : List ℕ) : Type 0 where
  pub count : CountIs P (full k) limit r
  pub size : length table' ≡ length table
  pub rest : drop (bytes_for (P.events - k)) table' ≡ drop (bytes_for (P.events - k)) table
