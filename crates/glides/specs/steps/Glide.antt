-- The next event by a list of bars (specs/Listed.antt), in two steps. Laws: proofs/GlideLaws.antt, ListedLaws.antt. Assumes nothing.
--     Stops ..        entry i stops v where the events of s are placed: its writer is, and its reader is not
--     Barred ..       c is the set of the events that one of the first n entries stops
--     NextAfter ..    r is the lowest event of `left` that is not seen and of which all that has to come before is in s, or m if there is none
use Rattle.std.specs.Prelude.{◌≡◌, Bool, true, false, List, ℕ, ◌%◌, ◌≤◌, ◌<◌, get_or}
use Rattle.sets.specs.Mask.{slots, mem, Has, Within}

-- 02 §9: "it is not the V of a bar with W placed and R not"
pub record Stops (between readers writers : List ℕ) (s i v : ℕ) : Type 0 where
  pub member : Has (get_or between i 0) v
  pub placed : Has s (get_or writers i 0 % slots)
  pub waiting : mem s (get_or readers i 0 % slots) ≡ false

pub record Barred (between readers writers : List ℕ) (n s c : ℕ) : Type 0 where
  pub only : (v : ℕ) → Has c v → (i : ℕ) × (i < n) × Stops between readers writers s i v
  pub all : (i v : ℕ) → i < n → Stops between readers writers s i v → Has c v

pub record NextAfter (m : ℕ) (before : List ℕ) (seen : ℕ → Bool) (s left r : ℕ) : Type 0 where
  pub bound : r ≤ m
  pub member : r < m → Has left r
  pub after : r < m → Within (get_or before r 0) s
  pub unseen : r < m → seen r ≡ false
  pub tried : (d : ℕ) → d < r → Has left d → Within (get_or before d 0) s → seen d ≡ true
