-- The laws of specs/Spare.antt: bars that never stop an event make no difference. In a run each event that is no init was placed after all that
-- have to come before it; so where W is placed and V has to come before W, V is placed too. Where R has to come before V, it is placed before V can be.
-- Assumes nothing.
--     Grown                       a set of a run: with an event that is no init it has all that have to come before it
--     spare_ready ready_spare     at such a set the same events can be placed
--     spare_runs runs_spare       the same lists go on; idle_same, below_same: from the set of the inits on
--     spare_first spare_dead      the same list is the first, and the same sets are dead
--     answered_spare              an answer for the fewer bars is one for all
--     answered_same               the same for tables
use Prim.Native.Nat.{ℕ, ◌<◌, ◌≤◌}
use mathlib.Core.Path.{refl, sym, subst}
use mathlib.Core.Bool.{Bool}
use mathlib.Core.Logic.{◌⊎◌, inl, inr, ⊎_elim, ◌↔◌}
use mathlib.Core.List.{List, [], ◌∷◌}
use native.Mathlib.Omega.{arith}
use lib.ListN.{get_or}
use Rattle.sets.specs.Mask.{Has}
use Rattle.gather.specs.Writers.{bar_at}
use Rattle.orders.specs.Problem.{Problem}
use Rattle.orders.specs.First.{FirstOf}
use Rattle.orders.specs.Step.{With, Below, Ready, Runs, Dead}
use Rattle.orders.specs.Tables.{tabled}
use Rattle.orders.specs.Answer.{Ordered, Answered}
use Rattle.orders.specs.Spare.{Spares, Idles}
use Rattle.orders.proofs.FirstLaws.{first_map}

abbrev pub Grown : Problem → ℕ → (ℕ → Type 0) → Type 0
Grown P k S = (a w : ℕ) → k ≤ w → S w → P.Before a w → S a

pub grown_below : (P : Problem) (k : ℕ) → Grown P k (Below k)
grown_below P k a w l s b = absurd (omega (arith, l, s))

pub grown_with : (P : Problem) (k : ℕ) (S : ℕ → Type 0) (e : ℕ) → Grown P k S → ((a : ℕ) → P.Before a e → S a) → Grown P k (With S e)
grown_with P k S e g h a w l (inl q) b = inr (h a (subst (λ (x : ℕ). P.Before a x) q b))
grown_with P k S e g h a w l (inr s) b = inr (g a w l s b)

module _ (P Q : Problem) (k : ℕ) (s : Idles P Q k) where
  module _ (S : ℕ → Type 0) (g : Grown P k S) (e : ℕ) where
    pub spare_ready : Ready P S e → Ready Q S e
    spare_ready r =
        record {
          event = subst (λ (n : ℕ). e < n) s.events r.event;
          fresh = r.fresh;
          after = λ a b. r.after a ((s.before a e).1 b);
          clear = λ x w b. r.clear x w (s.fewer x w e b);
        }

    pub ready_spare : Ready Q S e → Ready P S e
    ready_spare r =
        record {
          event = subst (λ (n : ℕ). e < n) (sym s.events) r.event;
          fresh = r.fresh;
          after = λ a b. r.after a ((s.before a e).0 b);
          clear = λ x w b h. ⊎_elim (λ c. r.clear x w c h) (⊎_elim (λ c. r.after x ((s.before x e).0 c)) (λ c. absurd (r.fresh (g e w c.0 h c.1)))) (s.settles x w e b);
        }

  pub spare_runs : (l : List ℕ) (S : ℕ → Type 0) → Grown P k S → Runs P S l → Runs Q S l
  spare_runs [] S g r = λ e h. r e (subst (λ (n : ℕ). e < n) (sym s.events) h)
  spare_runs (e ∷ l) S g r = (spare_ready S g e r.0, spare_runs l (With S e) (grown_with P k S e g r.0.after) r.1)

  pub runs_spare : (l : List ℕ) (S : ℕ → Type 0) → Grown P k S → Runs Q S l → Runs P S l
  runs_spare [] S g r = λ e h. r e (subst (λ (n : ℕ). e < n) s.events h)
  runs_spare (e ∷ l) S g r =
      let q = ready_spare S g e r.0 in
      (q, runs_spare l (With S e) (grown_with P k S e g q.after) r.1)

  -- from the set of the inits on
  pub idle_same : (l : List ℕ) → Runs P (Below k) l ↔ Runs Q (Below k) l
  idle_same l = (spare_runs l (Below k) (grown_below P k), runs_spare l (Below k) (grown_below P k))

  pub spare_first : (l : List ℕ) → FirstOf (Runs Q (Below k)) l → FirstOf (Runs P (Below k)) l
  spare_first l f =
      first_map (Runs Q (Below k)) (Runs P (Below k)) (λ j. (idle_same j).1) (λ j. (idle_same j).0) l f

  pub spare_dead : Dead Q (Below k) → Dead P (Below k)
  spare_dead d l r = d l ((idle_same l).0 r)

-- what is spared is idle
pub spares_idle : (P Q : Problem) (k : ℕ) → Spares P Q k → Idles P Q k
spares_idle P Q k s =
    record {
      events = s.events;
      before = s.before;
      fewer = s.fewer;
      settles = λ r w v b. ⊎_elim (λ c. inl c) (λ c. inr (inr c)) (s.settled r w v b);
    }

pub below_same : (P Q : Problem) (k : ℕ) (s : Spares P Q k) (l : List ℕ) → Runs P (Below k) l ↔ Runs Q (Below k) l
below_same P Q k s = idle_same P Q k (spares_idle P Q k s)

module _ (k m : ℕ) (before bars bars' : List ℕ) (s : Spares (tabled m before bars) (tabled m before bars') k) where
  i : Idles (tabled m before bars) (tabled m before bars') k
  i = spares_idle (tabled m before bars) (tabled m before bars') k s

  ordered_spare : {scratch order scratch' order' : List ℕ} {r : Bool} → Ordered (tabled m before bars') k scratch order r scratch' order'
      → Ordered (tabled m before bars) k scratch order r scratch' order'
  ordered_spare o =
      record {
        clean = o.clean;
        found = λ z. let w = o.found z in (w.0, spare_first (tabled m before bars) (tabled m before bars') k i w.0 w.1, w.2);
        none = λ z. spare_dead (tabled m before bars) (tabled m before bars') k i (o.none z);
        kept = o.kept;
      }

  pub answered_spare : {scratch order scratch' order' : List ℕ} {r : Bool} → Answered k m before bars' scratch order r scratch' order'
      → Answered k m before bars scratch order r scratch' order'
  answered_spare a = record { fit = λ f l. ordered_spare (a.fit f l); unfit = a.unfit }

-- two tables of bars: the second has no others, and of the first at most those are missing in which v has to come before w, which is no init
pub answered_same : {k m : ℕ} {before bars bars' scratch order scratch' order' : List ℕ} {r : Bool}
    → ((e w v : ℕ) → v < m → w < m → Has (bar_at bars' v w) e → Has (bar_at bars v w) e)
    → ((e w v : ℕ) → v < m → w < m → Has (bar_at bars v w) e → Has (bar_at bars' v w) e ⊎ ((k ≤ w) × Has (get_or before w 0) v))
    → Answered k m before bars' scratch order r scratch' order' → Answered k m before bars scratch order r scratch' order'
answered_same {k} {m} {before} {bars} {bars'} fewer settled a =
    answered_spare k m before bars bars'
    (record {
      events = refl;
      before = λ a b. ((λ h. h), (λ h. h));
      fewer = λ e w v h. (h.0, h.1, fewer e w v h.0 h.1 h.2);
      settled = λ e w v h. ⊎_elim (λ c. inl (h.0, h.1, c)) (λ c. inr (c.0, (h.1, c.1))) (settled e w v h.0 h.1 h.2);
    })
    a
