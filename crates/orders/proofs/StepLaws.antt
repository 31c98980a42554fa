-- The laws of specs/Step.antt: what may be concluded at a set of placed events. Assumes nothing.
--     Same, same-..       sets with the same members go on in the same ways
--     runs_fewer          fewer bars and fewer constraints keep what can be placed
--     Best                the event to place next
--     dead_here           a set from which every step leads to a dead set is dead
--     first_end           where all are placed, the first way on is to stop
--     first_step          the best event, and then the first way on
use Prim.Native.Nat.{ℕ, ◌<◌}
use mathlib.Core.Path.{◌≡◌, sym, subst}
use mathlib.Core.Logic.{◌⊎◌, inl, inr, ⊎_elim, ◌↔◌}
use mathlib.Core.List.{List, [], ◌∷◌}
use Rattle.orders.specs.Problem.{Problem}
use Rattle.orders.specs.First.{Lex, FirstOf}
use Rattle.orders.specs.Step.{With, Ready, Runs, Dead}
use Rattle.orders.proofs.FirstLaws.{Tri, below, same, above, tri, first_map}

-- S and T have the same members
abbrev pub Same : (ℕ → Type 0) → (ℕ → Type 0) → Type 0
Same S T = (d : ℕ) → S d ↔ T d

pub same_sym : (S T : ℕ → Type 0) → Same S T → Same T S
same_sym S T h d = ((h d).1, (h d).0)

pub same_with : (S T : ℕ → Type 0) (e : ℕ) → Same S T → Same (With S e) (With T e)
same_with S T e h d = (⊎_elim inl (λ s. inr ((h d).0 s)), ⊎_elim inl (λ t. inr ((h d).1 t)))

-- e is the event to place next: it can be placed, and of each lower one that can, the set with it is dead
pub record Best (P : Problem) (S : ℕ → Type 0) (e : ℕ) : Type 0 where
  pub ready : Ready P S e
  pub lower : (d : ℕ) → d < e → Ready P S d → Dead P (With S d)

module _ (P : Problem) where
  pub same_ready : (S T : ℕ → Type 0) → Same S T → (e : ℕ) → Ready P S e → Ready P T e
  same_ready S T h e r =
      record {
        event = r.event;
        fresh = λ t. r.fresh ((h e).1 t);
        after = λ a b. (h a).0 (r.after a b);
        clear = λ x w b t. (h x).0 (r.clear x w b ((h w).1 t));
      }

  pub same_runs : (l : List ℕ) (S T : ℕ → Type 0) → Same S T → Runs P S l → Runs P T l
  same_runs [] S T h r = λ e g. (h e).0 (r e g)
  same_runs (e ∷ l) S T h r = (same_ready S T h e r.0, same_runs l (With S e) (With T e) (same_with S T e h) r.1)

  pub same_dead : (S T : ℕ → Type 0) → Same S T → Dead P S → Dead P T
  same_dead S T h d l r = d l (same_runs l T S (same_sym S T h) r)

  pub same_first : (l : List ℕ) (S T : ℕ → Type 0) → Same S T → FirstOf (Runs P S) l → FirstOf (Runs P T) l
  same_first l S T h = first_map (Runs P S) (Runs P T) (λ k. same_runs k S T h) (λ k. same_runs k T S (same_sym S T h)) l

  -- ---- what a search may conclude

  -- where some event is left, and each that can be placed leads to a dead set, the set is dead
  pub dead_here : (S : ℕ → Type 0) → (((x : ℕ) → x < P.events → S x) → ⊥)
      → ((e : ℕ) → Ready P S e → Dead P (With S e)) → Dead P S
  dead_here S g f [] r = g r
  dead_here S g f (e ∷ l) r = f e r.0 l r.1

  -- where all events are placed, the empty list is the first that goes on
  pub first_end : (S : ℕ → Type 0) → ((e : ℕ) → e < P.events → S e) → FirstOf (Runs P S) []
  first_end S h = record { is = h; least = λ k r. tt }

  -- the best event, and then the first list that goes on
  first_least : (S : ℕ → Type 0) (e : ℕ) → Best P S e → (l : List ℕ) → FirstOf (Runs P (With S e)) l
      → (k : List ℕ) → Runs P S k → Lex (e ∷ l) k
  first_least S e b l f [] r = b.ready.fresh (r e b.ready.event)
  first_least S e b l f (d ∷ k) r = go (tri e d)
    where
      go : Tri e d → (e < d) ⊎ ((e ≡ d) × Lex l k)
      go (below h) = inl h
      go (same h) = inr (h, f.least k (subst (λ (x : ℕ). Runs P (With S x) k) (sym h) r.1))
      go (above h) = absurd (b.lower d h r.0 k r.1)

  pub first_step : (S : ℕ → Type 0) (e : ℕ) → Best P S e → (l : List ℕ) → FirstOf (Runs P (With S e)) l → FirstOf (Runs P S) (e ∷ l)
  first_step S e b l f = record { is = (b.ready, f.is); least = first_least S e b l f }

-- ---- fewer bars, fewer constraints

module _ (P Q : Problem) (events : Q.events ≡ P.events) (before : (a b : ℕ) → Q.Before a b → P.Before a b)
    (bars : (r w v : ℕ) → Q.Bar r w v → P.Bar r w v) where
  ready_fewer : (S : ℕ → Type 0) (e : ℕ) → Ready P S e → Ready Q S e
  ready_fewer S e r =
      record {
        event = rw events r.event;
        fresh = r.fresh;
        after = λ a h. r.after a (before a e h);
        clear = λ x w h. r.clear x w (bars x w e h);
      }

  pub runs_fewer : (l : List ℕ) (S : ℕ → Type 0) → Runs P S l → Runs Q S l
  runs_fewer [] S r = λ e h. r e (rw events at h)
  runs_fewer (e ∷ l) S r = (ready_fewer S e r.0, runs_fewer l (With S e) r.1)
