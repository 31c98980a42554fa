-- Each claim of specs/Promises.antt. Assumes nothing.
use mathlib.Core.Path.{◌≡◌, refl, ap}
use mathlib.Core.Option.{Option, none, some}
use Prim.Native.Nat.{ℕ}
use native.Mathlib.Omega.{arith}
use Rattle.log_order.specs.declared.Fault.{Fault}
use Rattle.std.specs.Prelude.{Ok, Err}
use Rattle.log_order.specs.Listed.{list_fault, said_of}
use Rattle.log_order.specs.Promises.{AcceptedIsMeets, FaultMeans}
use Rattle.log_order.proofs.MeetsLaws.{faultless, none_found, faultless_meets, meets_faultless}
use Rattle.log_order.proofs.MeansLaws.{fault_means}

pub said_accepted : (o : Option Fault) → said_of o ≡ (Ok tt) → o ≡ none
unfolding said_of
said_accepted none e = refl
said_accepted (some f) e = let z : ◌≡◌ {A = ℕ} 0 1 = cc in absurd (omega arith)

pub said_rejected : (o : Option Fault) (f : Fault) → said_of o ≡ Err f → o ≡ some f
unfolding said_of
said_rejected none f e = let z : ◌≡◌ {A = ℕ} 0 1 = cc in absurd (omega arith)
said_rejected (some g) f e = let z : g ≡ f = cc in ap some z

pub accepted_is_meets : AcceptedIsMeets
unfolding said_of
accepted_is_meets c strict l = (
  λ e. faultless_meets c l strict (faultless c l (said_accepted (list_fault c l) e)),
  λ m. ap said_of (none_found c l (meets_faultless c l m)),
)

pub fault_means_it : FaultMeans
fault_means_it c strict l f e = fault_means c strict l f (said_rejected (list_fault c l) f e)
