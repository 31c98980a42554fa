-- The next event as a walk knows it. Assumes nothing.
--     stand_ready   the lowest event that can be placed and leads to a set that is not marked
--     free_next stand_next    the same by a table of bars
use Prim.Native.Nat.{ℕ, ◌%◌, ◌<◌, ◌≤◌}
use mathlib.Core.Path.{◌≡◌, sym, ap, ◌∙◌}
use mathlib.Core.Bool.{true}
use mathlib.Core.List.{List}
use native.Mathlib.Omega.{arith}
use native.Mathlib.Decide.{dec_lt}
use native.Mathlib.Nat.{mod-eq_of_lt}
use Rattle.sets.specs.Mask.{slots, Has}
use Rattle.placing.specs.Placing.{NextFree, is_seen}
use Rattle.orders.specs.Problem.{Problem}
use Rattle.orders.specs.Step.{Ready}
use Rattle.orders.specs.Tables.{tabled}
use Rattle.orders.specs.Walk.{Gathered, NextIs, NextReady, Starting}
use Rattle.orders.proofs.TablesLaws.{free_ready, ready_free}
use Rattle.orders.proofs.StandLaws.{Stand}

module _ {P : Problem} {k : ℕ} {table₀ path₀ table path : List ℕ} {s depth from r : ℕ} (st : Starting P k table₀ path₀) (g : Stand P k table₀ table path s depth from)
    (n : NextReady P (is_seen (k % slots) table s) s from r) where
  slot : (d : ℕ) → from ≤ d → d < slots → is_seen (k % slots) table s d ≡ is_seen k table s d
  slot d h l = let a = g.low in ap (λ (i : ℕ). is_seen i table s d) (mod-eq_of_lt (omega (arith, a)))

  pub stand_ready : NextIs P k table s r
  stand_ready =
      record {
        bound = n.bound;
        tried = λ d l q. go d l q (dec_lt d from);
        ready = n.ready;
        unseen = λ h. let z = st.events in sym (slot r (n.place h) (omega (arith, h, z))) ∙ n.unseen h;
      }
    where
      go : (d : ℕ) → d < r → Ready P (Has s) d → Dec (d < from) → is_seen k table s d ≡ true
      go d l q (yes h) = g.tried d h q
      go d l q (no h) =
          let a : from ≤ d = omega (arith, h) in
          let b : d < slots = let y = n.bound in let z = st.events in omega (arith, y, z) in
          sym (slot d a b) ∙ n.tried d a l q

-- by a table of bars
pub free_next : {m k : ℕ} {before bars writers table : List ℕ} {s from r : ℕ} → m ≤ slots → Gathered m bars writers → NextFree k m before bars writers table s from r
    → NextReady (tabled m before bars) (is_seen k table s) s from r
free_next events all n =
    record {
      bound = n.bound;
      place = λ h. (n.place h).0;
      ready = λ h. free_ready all h (n.free h);
      unseen = n.unseen;
      tried = λ d a l q. n.tried d a l (let y = n.bound in omega (arith, y, events)) (ready_free all q);
    }

module _ {m : ℕ} {before bars writers : List ℕ} (all : Gathered m bars writers) {k : ℕ} {table₀ path₀ table path : List ℕ} {s depth from r : ℕ}
    (st : Starting (tabled m before bars) k table₀ path₀) (g : Stand (tabled m before bars) k table₀ table path s depth from)
    (n : NextFree (k % slots) m before bars writers table s from r) where
  pub stand_next : NextIs (tabled m before bars) k table s r
  stand_next = stand_ready st g (free_next st.events all n)
