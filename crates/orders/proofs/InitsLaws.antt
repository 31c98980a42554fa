-- The laws of specs/Inits.antt: the inits can be placed first, in the order of their numbers, and the first order begins so. Assumes nothing.
--     below_suc      the events below j, and j
--     whole_first    the first way on from the inits, with the inits in front, is the first of all orders that meet the problem
--     runs_whole     each way on from the inits, with the inits in front, is an order that meets the problem
--     whole_none     where the inits leave no way on, no order meets the problem
--     first_inits    the first order that meets the problem begins with the inits
--     from-..        lists that begin with the inits
--     begins_fewer, begins_same     where there are no other bars, or the same, the inits may stand first too
use Prim.Native.Nat.{ℕ, zero, suc, ◌+◌, ◌<◌, ◌≤◌}
use mathlib.Core.Path.{◌≡◌, refl, sym, ap, subst, ◌∙◌}
use mathlib.Core.Logic.{inl, inr, ⊎_elim, ◌↔◌}
use mathlib.Core.List.{List, [], ◌∷◌, ◌++◌}
use native.Mathlib.Omega.{arith}
use native.Mathlib.Nat.{add-zero, zero-add, add-suc, suc-add}
use native.Mathlib.Decide.{ℕ_discrete}
use lib.ListN.{length, get_or, take}
use Rattle.basis.specs.Test.{from}
use Rattle.orders.specs.Problem.{Problem}
use Rattle.orders.specs.Order.{In, Distinct, Meets}
use Rattle.orders.specs.First.{Lex, FirstOf}
use Rattle.orders.specs.Step.{With, Below, Ready, Runs, Dead}
use Rattle.orders.specs.Inits.{Begins}
use Rattle.orders.proofs.FirstLaws.{Tri, below, same, above, tri}
use Rattle.orders.proofs.StepLaws.{Same, same_sym, same_runs, same_dead, same_first, Best, first_step}
use Rattle.orders.proofs.OrderLaws.{None, runs_meets, meets_runs, first_meets, none_meets}

with_swap : (S : ℕ → Type 0) (a b : ℕ) → Same (With (With S a) b) (With (With S b) a)
with_swap S a b d = (swap a b, swap b a)
  where
    swap : (x y : ℕ) → With (With S x) y d → With (With S y) x d
    swap x y (inl p) = inr (inl p)
    swap x y (inr (inl p)) = inl p
    swap x y (inr (inr s)) = inr (inr s)

pub below_suc : (j : ℕ) → Same (With (Below j) j) (Below (suc j))
below_suc j d = (⊎_elim (λ p. omega (arith, p)) (λ g. omega (arith, g)), λ g. up g (tri d j))
  where
    up : d < suc j → Tri d j → With (Below j) j d
    up g (below q) = inr q
    up g (same q) = inl q
    up g (above q) = absurd (omega (arith, g, q))

-- numbers from j on, each once, that come no later than a list which counts from j: they count from j too
lead : (c j : ℕ) (l t : List ℕ) → Lex l (from j c ++ t) → Distinct l → ((e : ℕ) → In e l → j ≤ e) → ((e : ℕ) → j ≤ e → e < j + c → In e l) → take c l ≡ from j c
unfolding from
lead zero j l t h d low all = refl
lead (suc c) j [] t h d low all = absurd (all j (omega arith) (omega arith))
lead (suc c) j (x ∷ l) t (inl h) d low all = absurd (let b = low x (inl refl) in omega arith)
lead (suc c) j (x ∷ l) t (inr h) d low all =
    let q : x ≡ j = h.0 in
    let r = lead c (suc j) l t h.1 d.1 (λ e i. above_first e i (low e (inr i))) (λ e a b. rest e (omega arith) (all e (omega arith) (omega arith))) in
    ap (λ (y : ℕ). y ∷ take c l) q ∙ ap (λ (m : List ℕ). j ∷ m) r
  where
    above_first : (e : ℕ) → In e l → j ≤ e → suc j ≤ e
    above_first e i b = go (ℕ_discrete e j)
      where
        go : Dec (e ≡ j) → suc j ≤ e
        go (yes p) = absurd (d.0 (subst (λ (y : ℕ). In y l) (p ∙ sym h.0) i))
        go (no p) = omega arith

    rest : (e : ℕ) → suc j ≤ e → In e (x ∷ l) → In e l
    rest e b (inl p) = absurd (let q : x ≡ j = h.0 in omega arith)
    rest e b (inr p) = p

none_below : Same (Below 0) None
none_below d = ((λ h. omega (arith, h)), (λ z. absurd z))

module _ (P : Problem) (k : ℕ) (begins : Begins P k) where
  -- an init more takes nothing from what can be placed
  ready_with : (S : ℕ → Type 0) (i e : ℕ) → i < k → (e ≡ i → ⊥) → Ready P S e → Ready P (With S i) e
  ready_with S i e h g r =
      record {
        event = r.event;
        fresh = ⊎_elim g r.fresh;
        after = λ a b. inr (r.after a b);
        clear = λ x w b. ⊎_elim (λ p. inr (r.clear x w b (r.after w (begins.early x w e (subst (λ (y : ℕ). y < k) (sym p) h) b)))) (λ s. inr (r.clear x w b s));
      }

  -- where a list goes on from S, one goes on from S with an init
  with_runs : (l : List ℕ) (S : ℕ → Type 0) (i : ℕ) → i < k → Runs P S l → (t : List ℕ) × Runs P (With S i) t
  with_runs [] S i h r = ([], λ e g. inr (r e g))
  with_runs (x ∷ l) S i h r = go (ℕ_discrete x i) (with_runs l (With S x) i h r.1)
    where
      go : Dec (x ≡ i) → (t : List ℕ) × Runs P (With (With S x) i) t → (t : List ℕ) × Runs P (With S i) t
      go (yes p) t = (l, subst (λ (y : ℕ). Runs P (With S y) l) p r.1)
      go (no p) t = (x ∷ t.0, (ready_with S i x h p r.0, same_runs P t.0 (With (With S x) i) (With (With S i) x) (with_swap S x i) t.1))

  pub dead_with : (S : ℕ → Type 0) (i : ℕ) → i < k → Dead P (With S i) → Dead P S
  dead_with S i h d l r = let t = with_runs l S i h r in d t.0 t.1

  below_ready : (j : ℕ) → j < k → Ready P (Below j) j
  below_ready j h =
      record {
        event = omega (arith, begins.inits);
        fresh = λ g. omega (arith, g);
        after = λ a b. absurd (begins.first a j h b);
        clear = λ r w b s. absurd (begins.no_bar r w j h b);
      }

  below_best : (j : ℕ) → j < k → Best P (Below j) j
  below_best j h = record { ready = below_ready j h; lower = λ d g r. absurd (r.fresh g) }

  pub early_first : (c j : ℕ) → j + c ≤ k → (l : List ℕ) → FirstOf (Runs P (Below (j + c))) l → FirstOf (Runs P (Below j)) (from j c ++ l)
  unfolding from
  early_first zero j h l f = rw add-zero at f
  early_first (suc c) j h l f =
      first_step P (Below j) j (below_best j (omega arith)) (from (suc j) c ++ l)
      (same_first P (from (suc j) c ++ l) (Below (suc j)) (With (Below j) j) (same_sym (With (Below j) j) (Below (suc j)) (below_suc j))
      (early_first c (suc j) (omega arith) l (rw (add-suc, ← suc-add) at f)))

  pub early_dead : (c j : ℕ) → j + c ≤ k → Dead P (Below (j + c)) → Dead P (Below j)
  early_dead zero j h d = rw add-zero at d
  early_dead (suc c) j h d =
      dead_with (Below j) j (omega arith)
      (same_dead P (Below (suc j)) (With (Below j) j) (same_sym (With (Below j) j) (Below (suc j)) (below_suc j))
      (early_dead c (suc j) (omega arith) (rw (add-suc, ← suc-add) at d)))

  -- the first order from the inits on, with the inits in front, is the first that meets the rules
  pub whole_first : (l : List ℕ) → FirstOf (Runs P (Below k)) l → FirstOf (Meets P) (from 0 k ++ l)
  whole_first l f =
      first_meets P begins (from 0 k ++ l)
      (same_first P (from 0 k ++ l) (Below 0) None none_below (early_first k 0 (omega arith) l (rw zero-add f)))

  -- a way on from the inits, with the inits in front, is an order that meets the rules
  early_runs : (c j : ℕ) → j + c ≤ k → (l : List ℕ) → Runs P (Below (j + c)) l → Runs P (Below j) (from j c ++ l)
  unfolding from
  early_runs zero j h l r = rw add-zero at r
  early_runs (suc c) j h l r = (
    below_ready j (omega arith),
    same_runs P (from (suc j) c ++ l) (Below (suc j)) (With (Below j) j) (same_sym (With (Below j) j) (Below (suc j)) (below_suc j)) (early_runs c (suc j) (omega arith) l (rw (add-suc, ← suc-add) at r)),
  )

  pub runs_whole : (l : List ℕ) → Runs P (Below k) l → Meets P (from 0 k ++ l)
  runs_whole l r = runs_meets P begins (from 0 k ++ l) (same_runs P (from 0 k ++ l) (Below 0) None none_below (early_runs k 0 (omega arith) l (rw zero-add r)))

  -- where the inits leave no order, none meets the rules
  pub whole_none : Dead P (Below k) → (l : List ℕ) → Meets P l → ⊥
  whole_none d = none_meets P begins (same_dead P (Below 0) None none_below (early_dead k 0 (omega arith) (rw zero-add d)))

  -- and the other way: from an order, a way on from the inits
  early_on : (c j : ℕ) → j + c ≤ k → (l : List ℕ) → Runs P (Below j) l → (t : List ℕ) × Runs P (Below (j + c)) t
  early_on zero j h l r = (l, rw add-zero r)
  early_on (suc c) j h l r =
      let w = with_runs l (Below j) j (omega arith) r in
      let v = early_on c (suc j) (omega arith) w.0 (same_runs P w.0 (With (Below j) j) (Below (suc j)) (below_suc j) w.1) in
      (v.0, rw (add-suc, ← suc-add) v.1)

  -- the first order that meets the problem begins with the inits, in the order of their numbers
  pub first_inits : (o : List ℕ) → FirstOf (Meets P) o → take k o ≡ from 0 k
  first_inits o f =
      let r = same_runs P o None (Below 0) (same_sym (Below 0) None none_below) (meets_runs P begins o f.is) in
      let t = early_on k 0 (omega arith) o r in
      lead k 0 o t.0 (f.least (from 0 k ++ t.0) (runs_whole t.0 (rw zero-add at t.1))) f.is.once (λ e h. omega arith)
      (λ e a b. f.is.all e (let i = begins.inits in omega arith))

-- ---- lists that begin with the inits

pub from_length : (n c : ℕ) (l : List ℕ) → length (from n c ++ l) ≡ c + length l
unfolding from
from_length n zero l = sym (zero-add (length l))
from_length n (suc c) l = ap suc (from_length (suc n) c l) ∙ sym (suc-add c (length l))

pub from_low : (n c i : ℕ) (l : List ℕ) → i < c → get_or (from n c ++ l) i 0 ≡ n + i
unfolding from
from_low n zero i l h = absurd (omega arith)
from_low n (suc c) zero l h = sym (add-zero n)
from_low n (suc c) (suc i) l h = from_low (suc n) c i l (omega arith) ∙ omega arith

pub from_high : (n c i : ℕ) (l : List ℕ) → get_or (from n c ++ l) (c + i) 0 ≡ get_or l i 0
unfolding from
from_high n zero i l = rw zero-add
from_high n (suc c) i l = rw suc-add (from_high (suc n) c i l)

pub from_take : (n c j : ℕ) (l : List ℕ) → take (c + j) (from n c ++ l) ≡ from n c ++ take j l
unfolding from
from_take n zero j l = rw zero-add
from_take n (suc c) j l = rw suc-add (ap (λ (t : List ℕ). n ∷ t) (from_take (suc n) c j l))

-- the same has to come before, and there are no other bars
pub begins_fewer : (P Q : Problem) (k : ℕ) → P.events ≡ Q.events → ((a b : ℕ) → P.Before a b ↔ Q.Before a b) → ((r w v : ℕ) → P.Bar r w v → Q.Bar r w v)
    → Begins Q k → Begins P k
begins_fewer P Q k e f g b =
    record {
      inits = rw e b.inits;
      before_event = λ x y t. rw e (b.before_event x y ((f x y).0 t));
      bar_event = λ r w v t. rw e (b.bar_event r w v (g r w v t));
      bar_apart = λ r w v t. b.bar_apart r w v (g r w v t);
      first = λ x y l t. b.first x y l ((f x y).0 t);
      no_bar = λ r w v l t. b.no_bar r w v l (g r w v t);
      early = λ r w v l t. (f w v).1 (b.early r w v l (g r w v t));
    }

pub begins_same : (P Q : Problem) (k : ℕ) → P.events ≡ Q.events → ((a b : ℕ) → P.Before a b ↔ Q.Before a b) → ((r w v : ℕ) → P.Bar r w v ↔ Q.Bar r w v)
    → Begins Q k → Begins P k
begins_same P Q k e f g = begins_fewer P Q k e f (λ r w v. (g r w v).0)
