-- Which event can be placed next, over tables of masks, whatever they hold: before[v] is the set of the events that have to come before v,
-- bars[v * 32 + w] that of the r with a bar (r, w, v), and table marks the sets that were entered, by their members from k up.
-- Laws: proofs/BarsLaws.antt, UntriedLaws.antt, PlacingLaws.antt. Assumes nothing.
--     Unbarred bars c s v         with the events of s placed, no bar with a w of c forbids to place v
--     Free before bars c s v      v can be placed after the events of s; c has the writers of its bars
--     is_seen k table s e          whether the table marks the set s with e
--     NextFree k m .. s from r    r is the lowest event from `from` on, below m, that is free and leads to a set that is not marked, or m
--     LowestFree m .. s from r    r is the lowest event from `from` on, below m, that is free, or m
--     FoundBelow m P r            r is an event below m of which P says so, or none, and then P says so of m: P as the two above
--     Entered k s e depth ..      a step on: the set with e, its mark, and e on the path
use Rattle.std.specs.Prelude.{Option, MatchOption, ℕ, ◌<◌, ◌≤◌, ◌≡◌, Bool, true, false, List, get_or, set}
use Rattle.sets.specs.Mask.{slots, Has, Within, insert, above}
use Rattle.marks.specs.Table.{is_marked, marking}
use Rattle.gather.specs.Writers.{bar_at}

abbrev pub Unbarred : List ℕ → ℕ → ℕ → ℕ → Type 0
Unbarred bars c s v = (w : ℕ) → Has c w → Has s w → Within (bar_at bars v w) s

-- 02 §9: "each when all that happen before it are placed and it is not the V of a bar with W placed and R not"
pub record Free (before bars : List ℕ) (c s v : ℕ) : Type 0 where
  pub fresh : Has s v → ⊥
  pub after : Within (get_or before v 0) s
  pub clear : Unbarred bars c s v

abbrev pub is_seen : ℕ → List ℕ → ℕ → ℕ → Bool
is_seen k table s e = is_marked table (above (insert s e) k)

pub record NextFree (k m : ℕ) (before bars writers table : List ℕ) (s from r : ℕ) : Type 0 where
  pub bound : r ≤ m
  pub place : r < m → (from ≤ r) × (r < slots)
  pub free : r < m → Free before bars (get_or writers r 0) s r
  pub unseen : r < m → is_seen k table s r ≡ false
  pub tried : (d : ℕ) → from ≤ d → d < r → d < slots → Free before bars (get_or writers d 0) s d → is_seen k table s d ≡ true

pub record LowestFree (m : ℕ) (before bars writers : List ℕ) (s from r : ℕ) : Type 0 where
  pub bound : r ≤ m
  pub place : r < m → (from ≤ r) × (r < slots)
  pub free : r < m → Free before bars (get_or writers r 0) s r
  pub none : (d : ℕ) → from ≤ d → d < r → d < slots → Free before bars (get_or writers d 0) s d → ⊥

abbrev pub FoundBelow : ℕ → (ℕ → Type 0) → Option ℕ → Type 0
FoundBelow m P r = MatchOption r (P m) (λ (e : ℕ). (e < m) × P e)

pub record Entered (k s e depth : ℕ) (table path : List ℕ) (r : ℕ) (table' path' : List ℕ) : Type 0 where
  pub grown : r ≡ insert s e
  pub marked : table' ≡ marking table (above (insert s e) k)
  pub stored : path' ≡ set path depth e
