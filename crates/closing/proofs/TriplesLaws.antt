-- The closure by rows is the closure by triples (specs/Triples.antt): a way of one or more steps is what triples make of single steps.
-- Assumes nothing.
--     closed_tripled tripled_closed    each from the other
--     by_triples                       the two together
use mathlib.Core.List.{List}
use Prim.Native.Nat.{ℕ, ◌<◌}
use Rattle.closing.specs.Closure.{Reach, Closed}
use Rattle.closing.specs.Closure.Reach.{step, more}
use Rattle.closing.specs.Triples.{Leads, Includes, Triples, Tripled, ByTriples}
use Rattle.closing.proofs.ClosureLaws.{reach_trans}

-- a relation that has the single steps and leaves no triple has every way
ways : {n : ℕ} {rows : List ℕ} {P : ℕ → ℕ → Type 0} → Includes n P rows → Triples n P → {e d : ℕ} → e < n → Reach n rows e d → P e d
ways i t {e} {d} l (step h) = i e d l h
ways i t {e} {d} l (more {m = m} h k p) = t e m d l k (i e m l h) (ways i t k p)

pub closed_tripled : {n : ℕ} {rows rows' : List ℕ} → Closed n rows rows' → Tripled n rows rows'
closed_tripled c = record {
  size = c.size;
  old = λ e d l h. (c.reach e l d).1 (step h);
  whole = λ e m d l k a b. (c.reach e l d).1 (reach_trans ((c.reach e l m).0 a) k ((c.reach m k d).0 b));
  least = λ P i t e d l h. ways i t l ((c.reach e l d).0 h);
  rest = c.rest;
}

pub tripled_closed : {n : ℕ} {rows rows' : List ℕ} → Tripled n rows rows' → Closed n rows rows'
tripled_closed {n} {rows} {rows'} t = record {
  size = t.size;
  reach = λ e l d. (λ h. t.least (Reach n rows) (λ e d l h. step h) (λ e m d l k a b. reach_trans a k b) e d l h, λ p. ways {P = Leads rows'} t.old t.whole l p);
  rest = t.rest;
}

pub by_triples : ByTriples
by_triples n rows rows' = (closed_tripled, tripled_closed)
