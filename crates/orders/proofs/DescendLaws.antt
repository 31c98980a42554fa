-- A walk without marks and without a step back. Assumes nothing.
--     free_lowest                 the lowest event that can be placed, as `descend` finds it
--     Going                       the way, and that each event on it was the lowest that could be placed
--     going_start going_on going_end     the start, a step on, and what is known where all are placed
use Prim.Native.Nat.{ℕ, ◌+◌, ◌-◌, ◌<◌, ◌≤◌}
use mathlib.Core.Path.{◌≡◌, refl, subst}
use mathlib.Core.Bool.{false, false≢true}
use mathlib.Core.List.{List}
use native.Mathlib.Omega.{arith}
use native.Mathlib.Decide.{dec_lt}
use lib.ListN.{length, set, take}
use Rattle.sets.specs.Mask.{slots, Has, insert, full}
use Rattle.placing.specs.Placing.{LowestFree}
use Rattle.orders.specs.Problem.{Problem}
use Rattle.orders.specs.First.{FirstOf}
use Rattle.orders.specs.Step.{With, Below, Ready, Runs, Dead}
use Rattle.orders.specs.Tables.{tabled}
use Rattle.orders.specs.Walk.{Gathered, NextReady}
use Rattle.orders.proofs.StepLaws.{Best}
use Rattle.orders.proofs.TablesLaws.{free_ready, ready_free}
use Rattle.orders.proofs.TrailLaws.{Bests, trail_snoc}
use Rattle.orders.proofs.WayLaws.{Way, way_start, way_full, way_path, way_deep, way_on, way_end}

pub free_lowest : (m k : ℕ) (before bars writers : List ℕ) {s r : ℕ} → m ≤ slots → Gathered m bars writers → LowestFree m before bars writers s k r
    → NextReady (tabled m before bars) (λ d. false) s k r
free_lowest m k before bars writers events all n =
    record {
      bound = n.bound;
      place = λ h. (n.place h).0;
      ready = λ h. free_ready all h (n.free h);
      unseen = λ h. refl;
      tried = λ d l h q. absurd (n.none d l h (let b = n.bound in omega (arith, b)) (ready_free all q));
    }

pub record Going (P : Problem) (k : ℕ) (path : List ℕ) (s depth : ℕ) : Type 0 where
  pub way : Way P k path s depth
  pub bests : Bests P (full k) (take depth path)

module _ (P : Problem) (k : ℕ) (inits : k ≤ P.events) (events : P.events ≤ slots) where
  pub going_start : (path : List ℕ) → slots ≤ length path → Going P k path (full k) 0
  going_start path cells = record { way = way_start inits events cells; bests = tt }

  module _ {path : List ℕ} {s depth : ℕ} (g : Going P k path s depth) where
    pub going_end : s ≡ full P.events → FirstOf (Runs P (Below k)) (take (P.events - k) path)
    going_end h = way_end inits events g.way g.bests h

    module _ {e : ℕ} (h : e < P.events) (n : NextReady P (λ d. false) s k e) where
      best : Best P (Has s) e
      best = record { ready = n.ready h; lower = λ d l r. lower d l r (dec_lt d k) }
        where
          lower : (d : ℕ) → d < e → Ready P (Has s) d → Dec (d < k) → Dead P (With (Has s) d)
          lower d l r (yes q) = absurd (r.fresh (way_full inits events g.way d q))
          lower d l r (no q) = absurd (false≢true (n.tried d (omega (arith, q)) l r))

      pub going_on : Going P k (set path depth e) (insert s e) (depth + 1)
      going_on =
          record {
            way = way_on inits events g.way best.ready;
            bests = subst (Bests P (full k)) (way_path inits events g.way best.ready)
                (trail_snoc _ (take depth path) (full k) e g.bests (subst (λ (x : ℕ). Best P (Has x) e) g.way.at best));
          }

      pub going_deep : k + depth < P.events
      going_deep = way_deep inits events g.way best.ready
