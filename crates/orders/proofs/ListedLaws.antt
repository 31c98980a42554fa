-- The laws of specs/Listed.antt. Assumes nothing.
--     listed_length                             how long the table is
--     listed_elim listed_intro                  it has exactly the bars that an entry has
use mathlib.Core.Path.{◌≡◌, subst, ◌∙◌}
use mathlib.Core.Bool.{false}
use mathlib.Core.Logic.{⊎_elim}
use mathlib.Core.List.{List}
use Prim.Native.Nat.{ℕ, zero, suc, ◌+◌, ◌*◌, ◌%◌, ◌≤◌, ◌<◌}
use native.Mathlib.Omega.{arith}
use native.Mathlib.Decide.{ℕ_discrete}
use lib.ListN.{length, get_or, replicate, length-replicate}
use Rattle.basis.proofs.BoolLaws.{not_both_ways}
use Rattle.sets.specs.Mask.{slots, mem, Has}
use Rattle.sets.proofs.MaskLaws.{mem_empty}
use Rattle.gather.specs.Writers.{bar_at}
use Rattle.cells.specs.Walk.{up_to}
use Rattle.cells.proofs.CellsLaws.{spread_length, spread_elim, spread_old, spread_new}
use Rattle.orders.specs.Listed.{Lists, add_listed, listed_bars}

-- a table of zeros has no bar
blank : (n i e : ℕ) → mem (get_or (replicate n 0) i 0) e ≡ false
blank zero i e = mem_empty e
blank (suc n) zero e = mem_empty e
blank (suc n) (suc i) e = blank n i e

module _ (between readers writers : List ℕ) where
  pub listed_length : (n : ℕ) → length (listed_bars between readers writers n) ≡ slots * slots
  unfolding listed_bars up_to
  listed_length zero = length-replicate {A = ℕ} (slots * slots) 0
  listed_length (suc n) =
      spread_length (get_or between n 0) (get_or writers n 0 % slots) (get_or readers n 0 % slots) (listed_bars between readers writers n) ∙ listed_length n

  module _ (v w r : ℕ) (w-slot : w < slots) where
    long : (n : ℕ) → slots * slots ≤ length (listed_bars between readers writers n)
    long n = let z = listed_length n in omega arith

    pub listed_elim : (n : ℕ) → Has (bar_at (listed_bars between readers writers n) v w) r → (i : ℕ) × (i < n) × Lists between readers writers i r w v
    unfolding listed_bars up_to
    listed_elim zero h = absurd (not_both_ways h (blank (slots * slots) (v * slots + w) r))
    listed_elim (suc n) h =
        ⊎_elim (λ g. let x = listed_elim n g in (x.0, omega (arith, x.1), x.2)) (λ g. (n, omega arith, record { member = g.0; writer = g.1.0; reader = g.1.1 }))
        (spread_elim (get_or between n 0) (get_or writers n 0 % slots) (get_or readers n 0 % slots) (listed_bars between readers writers n) (long n) (omega arith) v w r w-slot h)

    pub listed_intro : v < slots → (n i : ℕ) → i < n → Lists between readers writers i r w v → Has (bar_at (listed_bars between readers writers n) v w) r
    unfolding listed_bars up_to
    listed_intro v-slot zero i l h = absurd (omega (arith, l))
    listed_intro v-slot (suc n) i l h = go (ℕ_discrete i n) (listed_intro v-slot n)
      where
        go : Dec (i ≡ n) → ((j : ℕ) → j < n → Lists between readers writers j r w v → Has (bar_at (listed_bars between readers writers n) v w) r)
            → Has (bar_at (add_listed between readers writers n (listed_bars between readers writers n)) v w) r
        go (no f) ih =
            spread_old (get_or between n 0) (get_or writers n 0 % slots) (get_or readers n 0 % slots) (listed_bars between readers writers n) (long n) (omega arith) v w r w-slot
            (ih i (omega (arith, l, f)) h)
        go (yes e) ih =
            let x = subst (λ (j : ℕ). Lists between readers writers j r w v) e h in
            spread_new (get_or between n 0) (get_or writers n 0 % slots) (get_or readers n 0 % slots) (listed_bars between readers writers n) (long n) (omega arith) v w r w-slot
            v-slot x.member x.writer x.reader
