-- What `placing` finds by a table of bars, as a walk knows it. Assumes nothing.
--     found_lowest found_next    the lowest event that can be placed; that leads to a set that is not marked
use mathlib.Core.Bool.{false}
use mathlib.Core.List.{List}
use Prim.Native.Nat.{ℕ, ◌≤◌}
use Rattle.std.specs.Prelude.{Option}
use Rattle.sets.specs.Mask.{slots}
use Rattle.placing.specs.Placing.{is_seen, FoundBelow, NextFree, LowestFree}
use Rattle.placing.proofs.PlacingLaws.{found_map}
use Rattle.orders.specs.Tables.{tabled}
use Rattle.orders.specs.Walk.{Gathered, NextReady}
use Rattle.orders.proofs.NextLaws.{free_next}
use Rattle.orders.proofs.DescendLaws.{free_lowest}

module _ (k m : ℕ) (before bars writers : List ℕ) (s : ℕ) (events : m ≤ slots) (all : Gathered m bars writers) where
  pub found_lowest : (r : Option ℕ) → FoundBelow m (LowestFree m before bars writers s k) r → FoundBelow m (NextReady (tabled m before bars) (λ d. false) s k) r
  found_lowest r =
      found_map m {P = LowestFree m before bars writers s k} {Q = NextReady (tabled m before bars) (λ d. false) s k}
      (λ e n. free_lowest m k before bars writers events all n) r

  pub found_next : (table : List ℕ) (from : ℕ) (r : Option ℕ) → FoundBelow m (NextFree k m before bars writers table s from) r
      → FoundBelow m (NextReady (tabled m before bars) (is_seen k table s) s from) r
  found_next table from r =
      found_map m {P = NextFree k m before bars writers table s from} {Q = NextReady (tabled m before bars) (is_seen k table s) s from}
      (λ e n. free_next events all n) r
