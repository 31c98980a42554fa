-- The laws of the lookups: the access of an event at a byte (specs/Event.antt), and event number e (specs/Execution.antt). Assumes nothing.
--     lookup_mem, shape_mem, shape_covers     an event covers a byte by one of its accesses, and by each that does
--     reads_covers, reads_reads, writes_covers, writes_writes     a test at a byte, taken apart
--     event_out, event_inside            no event behind the last; what does not hold of nobody holds of events only
--     row_trans, pair_trans              the orders in which rows and pairs rise
--     access_inside, agent_inside, covering_inside     what has an access, an agent, a byte is one of the events
use mathlib.Core.Path.{◌≡◌, refl, subst}
use mathlib.Core.Logic.{◌⊎◌, inl, inr, ⊎_elim}
use mathlib.Core.Bool.{Bool, true, false, cond}
use mathlib.Core.List.Memᴰ
use mathlib.Core.List.{List, [], ◌∷◌, Memᴰ}
use Prim.Native.Nat.{ℕ, ◌≤◌, ◌<◌}
use native.Mathlib.Omega.{arith}
use native.Mathlib.Nat.{not-suc-le-zero}
use native.Mathlib.Decide.{dec_lt}
use borrow.Author.Tests.{ltb-true, lt-ltb, eqb-true, eq-eqb}
use lib.Dec.{T, ltb, eqb}
use lib.ListN.{length, get_or-eq_default}
use Rattle.basis.proofs.BoolLaws.{true_T, T_true, false_T, and_elim, and_intro, and_both, or_left, or_right, or_either}
use Rattle.basis.specs.Test.{◌and◌, ◌or◌}
use Rattle.format.specs.declared.Row.{Row}
use Rattle.format.specs.declared.Pair.{Pair}
use Rattle.format.specs.Shape.{reads, writes, covers}
use Rattle.format.specs.Event.{Access, Event, nobody, lookup, access_at, shape_at, reads_at, writes_at}
use Rattle.format.specs.Execution.{Execution, event_no, event, row_below, pair_below}
use Rattle.format.proofs.EventLaws.{covers_nothing}

pub lookup_mem : (l : List Access) (n : ℕ) → T (covers (lookup l n).shape n) → Memᴰ (lookup l n) l
unfolding lookup
lookup_mem [] n t = absurd (false_T _ (covers_nothing n) t)
lookup_mem (a ∷ l) n t = go (covers a.shape n) t (lookup_mem l n)
  where
    go : (c : Bool) → T (covers (cond c a (lookup l n)).shape n) → (T (covers (lookup l n).shape n) → Memᴰ (lookup l n) l)
        → Memᴰ (cond c a (lookup l n)) (a ∷ l)
    go true s ih = Memᴰ.head refl
    go false s ih = Memᴰ.tail (ih s)

-- an access of an event covers a byte; so does the access at that byte
found_covers : (l : List Access) (a : Access) (k : ℕ) → Memᴰ a l → T (covers a.shape k) → T (covers (lookup l k).shape k)
unfolding lookup
found_covers [] a k m h = elim m [ ]
found_covers (b ∷ l) a k m h = go (covers b.shape k) refl m (λ n. found_covers l a k n h)
  where
    go : (c : Bool) → covers b.shape k ≡ c → Memᴰ a (b ∷ l) → (Memᴰ a l → T (covers (lookup l k).shape k)) → T (covers (cond c b (lookup l k)).shape k)
    go true e n ih = true_T _ e
    go false e (Memᴰ.head z) ih = absurd (false_T _ e (subst (λ (d : Access). T (covers d.shape k)) z h))
    go false e (Memᴰ.tail n) ih = ih n

pub shape_covers : (d : Event) (a : Access) (k : ℕ) → Memᴰ a d.accesses → T (covers a.shape k) → T (covers (shape_at d k) k)
unfolding shape_at access_at
shape_covers d a k m h = found_covers d.accesses a k m h

module _ (d : Event) (n : ℕ) where
  pub shape_mem : T (covers (shape_at d n) n) → (a : Access) × Memᴰ a d.accesses × (a.shape ≡ shape_at d n)
  unfolding shape_at access_at
  shape_mem t = (lookup d.accesses n, lookup_mem d.accesses n t, refl)

  pub reads_covers : T (reads_at d n) → T (covers (shape_at d n) n)
  unfolding reads_at
  reads_covers t = (and_elim _ _ t).0

  pub reads_reads : T (reads_at d n) → T (reads (shape_at d n))
  unfolding reads_at
  reads_reads t = (and_elim _ _ t).1

  pub writes_covers : T (writes_at d n) → T (covers (shape_at d n) n)
  unfolding writes_at
  writes_covers t = (and_elim _ _ t).0

  pub writes_writes : T (writes_at d n) → T (writes (shape_at d n))
  unfolding writes_at
  writes_writes t = (and_elim _ _ t).1

module _ (x : Execution) where
  pub event_out : (e : ℕ) → length x.events ≤ e → event x e ≡ nobody
  unfolding event event_no
  event_out e h = get_or-eq_default x.events nobody h

  -- a fact that does not hold of nobody holds of events only
  pub event_inside : (F : Event → Type 0) → (F nobody → ⊥) → (e : ℕ) → F (event x e) → e < length x.events
  event_inside F never e h = go (dec_lt e (length x.events))
    where
      go : Dec (e < length x.events) → e < length x.events
      go (yes k) = k
      go (no k) = absurd (never (subst F (event_out e (omega arith)) h))

  pub access_inside : (e : ℕ) (a : Access) → Memᴰ a (event x e).accesses → e < length x.events
  access_inside e a m = event_inside (λ d. Memᴰ a d.accesses) (λ k. Memᴰ.not-nil k) e m

  pub agent_inside : (e : ℕ) → 0 < (event x e).agent → e < length x.events
  agent_inside e h = event_inside (λ d. 0 < d.agent) (λ k. not-suc-le-zero k) e h

  pub covering_inside : (e n : ℕ) → T (covers (shape_at (event x e) n) n) → e < length x.events
  covering_inside e n t = let w = shape_mem (event x e) n t in access_inside e w.0 w.1

-- ---- the orders in which rows and pairs rise

-- (m, n) is before (o, p), number by number
lex_trans : (m n o p q r : ℕ) → T (ltb m o or (eqb m o and ltb n p)) → T (ltb o q or (eqb o q and ltb p r)) → T (ltb m q or (eqb m q and ltb n r))
lex_trans m n o p q r s t = go (cases m n o p s) (cases o p q r t)
  where
    cases : (a b c d : ℕ) → T (ltb a c or (eqb a c and ltb b d)) → (a < c) ⊎ ((a ≡ c) × (b < d))
    cases a b c d u =
        ⊎_elim (λ x. inl (ltb-true a c x)) (λ x. let w = and_both (eqb a c) (ltb b d) x in inr (eqb-true a c w.0, ltb-true b d w.1))
        (or_either (ltb a c) (eqb a c and ltb b d) (T_true _ u))

    less : m < q → T (ltb m q or (eqb m q and ltb n r))
    less x = or_left (ltb m q) (eqb m q and ltb n r) (true_T _ (lt-ltb m q x))

    same : m ≡ q → n < r → T (ltb m q or (eqb m q and ltb n r))
    same x y = or_right (ltb m q) (eqb m q and ltb n r) (and_intro (eqb m q) (ltb n r) (true_T _ (eq-eqb m q x)) (true_T _ (lt-ltb n r y)))

    go : (m < o) ⊎ ((m ≡ o) × (n < p)) → (o < q) ⊎ ((o ≡ q) × (p < r)) → T (ltb m q or (eqb m q and ltb n r))
    go (inl x) (inl y) = less (omega arith)
    go (inl x) (inr y) = less (omega arith)
    go (inr x) (inl y) = less (omega arith)
    go (inr x) (inr y) = same (omega arith) (omega arith)

pub row_trans : (a b c : Row) → T (row_below a b) → T (row_below b c) → T (row_below a c)
unfolding row_below
row_trans a b c s t = lex_trans a.reader a.address b.reader b.address c.reader c.address s t

pub pair_trans : (a b c : Pair) → T (pair_below a b) → T (pair_below b c) → T (pair_below a c)
unfolding pair_below
pair_trans a b c s t = lex_trans a.first a.second b.first b.second c.first c.second s t
