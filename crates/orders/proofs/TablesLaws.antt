-- The laws of specs/Tables.antt: the bridge from the problem on predicates to masks. Assumes nothing.
--     gathered                                what `gather` gives
--     free_ready ready_free                   what can be placed, as the code tests it
--     with_insert below_full                  a set with one event more, and the set of the inits, as numbers
use Prim.Native.Nat.{ℕ, ◌<◌, ◌≤◌, min}
use mathlib.Core.Path.{◌≡◌, sym, subst}
use mathlib.Core.Logic.{⊎_elim}
use mathlib.Core.List.{List}
use native.Mathlib.Omega.{arith}
use lib.ListN.{length, get_or}
use Rattle.sets.specs.Mask.{slots, Has, insert, full}
use Rattle.sets.proofs.MaskLaws.{mem_full, insert_new, insert_old, insert_cases, full_has}
use Rattle.gather.specs.Writers.{Writers, Gathers}
use Rattle.placing.specs.Placing.{Free}
use Rattle.orders.specs.Step.{With, Below, Ready}
use Rattle.orders.specs.Tables.{tabled}
use Rattle.orders.specs.Walk.{Gathered}
use Rattle.orders.proofs.StepLaws.{Same}

pub gathered : (m : ℕ) (bars ws ws' : List ℕ) → m ≤ slots → slots ≤ length ws → Gathers (min m slots) bars ws ws' → Gathered m bars ws'
gathered m bars ws ws' few room g =
    let e : min m slots ≡ m = omega arith in record { each = λ v l. subst (λ (n : ℕ). Writers n bars v (get_or ws' v 0)) e (g.each v (omega arith) (omega arith)) }

module _ {m : ℕ} {before bars writers : List ℕ} (all : Gathered m bars writers) {s v : ℕ} where
  pub free_ready : v < m → Free before bars (get_or writers v 0) s v → Ready (tabled m before bars) (Has s) v
  free_ready l f =
      record { event = l; fresh = f.fresh; after = λ a h. f.after a h.1; clear = λ r w h g. f.clear w ((all.each v l).all w r h.1 h.2) g r h.2 }

  pub ready_free : Ready (tabled m before bars) (Has s) v → Free before bars (get_or writers v 0) s v
  ready_free r =
      record { fresh = r.fresh; after = λ a h. r.after a (r.event, h); clear = λ w c g x h. r.clear x w (r.event, (all.each v r.event).only w c, h) g }

-- ---- sets as numbers

pub with_insert : (s e : ℕ) → Same (Has (insert s e)) (With (Has s) e)
with_insert s e d = (insert_cases s e d, ⊎_elim (λ p. subst (λ (x : ℕ). Has (insert s e) x) (sym p) (insert_new s e)) (insert_old s e d))

pub below_full : (k : ℕ) → Same (Has (full k)) (Below k)
below_full k d = (full_has k d, mem_full k d)
