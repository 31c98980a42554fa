-- The way of a walk through sets held as numbers: the events placed so far, and the sets on the way. Assumes nothing.
--     placed s p        the set s after the events of p were placed
--     On t s p          t is one of the sets on the way
--     Trail Q s p       each event of p has the property Q at its set
--     Readies, Bests    each event could be placed; each was the best
--     Full k t          t has the events below k
--     runs_length       how many are placed from the inits on
use Prim.Native.Nat.{ℕ, ◌+◌, ◌^◌, ◌<◌, ◌≤◌}
use mathlib.Core.Path.{◌≡◌, refl, sym, ap, ◌∙◌}
use mathlib.Core.Logic.{◌⊎◌, inl, inr, ⊎_elim}
use mathlib.Core.List.{List, [], ◌∷◌, ◌++◌}
use native.Mathlib.Omega.{arith}
use native.Mathlib.Nat.{add-zero, add-suc, suc-add}
use lib.Pow.{pow_pos, pow_mono}
use lib.ListN.{length}
use Rattle.basis.proofs.BoolLaws.{false_of}
use Rattle.sets.specs.Mask.{mem, Has, insert, full}
use Rattle.sets.specs.Count.{count}
use Rattle.sets.proofs.MaskLaws.{insert_ge, insert_lt, insert_old, full_of}
use Rattle.sets.proofs.CountLaws.{size_insert, size_full, size_first}
use Rattle.orders.specs.Problem.{Problem}
use Rattle.orders.specs.First.{FirstOf}
use Rattle.orders.specs.Step.{With, Below, Ready, Runs}
use Rattle.orders.proofs.StepLaws.{Best, same_sym, same_runs, same_first, first_step, first_end}
use Rattle.orders.proofs.TablesLaws.{with_insert, below_full}

abbrev pub placed : ℕ → List ℕ → ℕ
placed s [] = s
placed s (e ∷ p) = placed (insert s e) p

abbrev pub On : ℕ → ℕ → List ℕ → Type 0
On t s [] = t ≡ s
On t s (e ∷ p) = (t ≡ s) ⊎ On t (insert s e) p

abbrev pub Full : ℕ → ℕ → Type 0
Full k t = (d : ℕ) → d < k → Has t d

pub placed_snoc : (p : List ℕ) (s e : ℕ) → placed s (p ++ e ∷ []) ≡ insert (placed s p) e
placed_snoc [] s e = refl
placed_snoc (x ∷ p) s e = placed_snoc p (insert s x) e

pub placed_le : (p : List ℕ) (s : ℕ) → s ≤ placed s p
placed_le [] s = omega arith
placed_le (x ∷ p) s = let h = placed_le p (insert s x) in let g = insert_ge s x in omega arith

pub on_le : (p : List ℕ) (t s : ℕ) → On t s p → t ≤ placed s p
on_le [] t s h = omega (arith, h)
on_le (x ∷ p) t s (inl h) = let g = placed_le (x ∷ p) s in omega (arith, h)
on_le (x ∷ p) t s (inr h) = on_le p t (insert s x) h

pub on_more : (p : List ℕ) (t s e : ℕ) → On t s p → On t s (p ++ e ∷ [])
on_more [] t s e h = inl h
on_more (x ∷ p) t s e (inl h) = inl h
on_more (x ∷ p) t s e (inr h) = inr (on_more p t (insert s x) e h)

pub on_end : (p : List ℕ) (t s e : ℕ) → t ≡ insert (placed s p) e → On t s (p ++ e ∷ [])
on_end [] t s e h = inr h
on_end (x ∷ p) t s e h = inr (on_end p t (insert s x) e h)

pub on_less : (p : List ℕ) (t s e : ℕ) → On t s (p ++ e ∷ []) → On t s p ⊎ (t ≡ insert (placed s p) e)
on_less [] t s e h = h
on_less (x ∷ p) t s e (inl h) = inl (inl h)
on_less (x ∷ p) t s e (inr h) = ⊎_elim (λ g. inl (inr g)) inr (on_less p t (insert s x) e h)

-- ---- each event has the property Q at its set

module _ (Q : ℕ → ℕ → Type 0) where
  abbrev pub Trail : ℕ → List ℕ → Type 0
  Trail s [] = Unit {0}
  Trail s (e ∷ p) = Q s e × Trail (insert s e) p

  pub trail_snoc : (p : List ℕ) (s e : ℕ) → Trail s p → Q (placed s p) e → Trail s (p ++ e ∷ [])
  trail_snoc [] s e t b = (b, tt)
  trail_snoc (x ∷ p) s e t b = (t.0, trail_snoc p (insert s x) e t.1 b)

  pub trail_init : (p : List ℕ) (s e : ℕ) → Trail s (p ++ e ∷ []) → Trail s p
  trail_init [] s e t = tt
  trail_init (x ∷ p) s e t = (t.0, trail_init p (insert s x) e t.1)

  pub trail_last : (p : List ℕ) (s e : ℕ) → Trail s (p ++ e ∷ []) → Q (placed s p) e
  trail_last [] s e t = t.0
  trail_last (x ∷ p) s e t = trail_last p (insert s x) e t.1

pub trail_map : (Q R : ℕ → ℕ → Type 0) → ((s e : ℕ) → Q s e → R s e) → (p : List ℕ) (s : ℕ) → Trail Q s p → Trail R s p
trail_map Q R f [] s t = tt
trail_map Q R f (x ∷ p) s t = (f s x t.0, trail_map Q R f p (insert s x) t.1)

module _ (P : Problem) where
  abbrev pub Readies : ℕ → List ℕ → Type 0
  Readies = Trail (λ s e. Ready P (Has s) e)

  pub trail_lt : (p : List ℕ) (s : ℕ) → Readies s p → s < 2 ^ P.events → placed s p < 2 ^ P.events
  trail_lt [] s t h = h
  trail_lt (x ∷ p) s t h = trail_lt p (insert s x) t.1 (insert_lt P.events s x h t.0.event)

  -- each event makes the set one larger
  pub trail_size : (p : List ℕ) (s : ℕ) → Readies s p → count (mem (placed s p)) P.events ≡ count (mem s) P.events + length p
  trail_size [] s t = sym (add-zero (count (mem s) P.events))
  trail_size (x ∷ p) s t =
      trail_size p (insert s x) t.1 ∙ ap (λ (n : ℕ). n + length p) (size_insert P.events s x t.0.event (false_of (mem s x) t.0.fresh))
      ∙ suc-add (count (mem s) P.events) (length p) ∙ sym (add-suc (count (mem s) P.events) (length p))

  pub trail_keeps : (p : List ℕ) (s d : ℕ) → Has s d → Has (placed s p) d
  trail_keeps [] s d h = h
  trail_keeps (x ∷ p) s d h = trail_keeps p (insert s x) d (insert_old s x d h)

  abbrev pub Bests : ℕ → List ℕ → Type 0
  Bests = Trail (λ s e. Best P (Has s) e)

  pub trail_first : (p : List ℕ) (s : ℕ) → Bests s p → ((e : ℕ) → e < P.events → Has (placed s p) e) → FirstOf (Runs P (Has s)) p
  trail_first [] s t h = first_end P (Has s) h
  trail_first (x ∷ p) s t h =
      first_step P (Has s) x t.0 p (same_first P p (Has (insert s x)) (With (Has s) x) (with_insert s x) (trail_first p (insert s x) t.1 h))

-- ---- how many are placed from the inits on

module _ (P : Problem) where
  runs_size : (l : List ℕ) (s : ℕ) → s < 2 ^ P.events → Runs P (Has s) l → count (mem s) P.events + length l ≡ P.events
  runs_size [] s h r = add-zero (count (mem s) P.events) ∙ ap (λ (x : ℕ). count (mem x) P.events) (full_of P.events s h r) ∙ size_full P.events
  runs_size (e ∷ l) s h r =
      let a = runs_size l (insert s e) (insert_lt P.events s e h r.0.event) (same_runs P l (With (Has s) e) (Has (insert s e)) (same_sym (Has (insert s e)) (With (Has s) e) (with_insert s e)) r.1) in
      let b = size_insert P.events s e r.0.event (false_of (mem s e) r.0.fresh) in
      omega arith

  pub runs_length : (k : ℕ) → k ≤ P.events → (l : List ℕ) → Runs P (Below k) l → k + length l ≡ P.events
  runs_length k h l r =
      let z : full k < 2 ^ P.events = let p = pow_pos k in let q : 2 ^ k ≤ 2 ^ P.events = pow_mono h in omega arith in
      let a = runs_size l (full k) z (same_runs P l (Below k) (Has (full k)) (same_sym (Has (full k)) (Below k) (below_full k)) r) in
      let b = size_first k P.events h in
      omega arith
