-- The laws of specs/Rules.antt. Assumes nothing.
--     Clean, clean, fault_none        no rule is broken: none of the five searches finds anything
--     between_apart                   in 24, V is neither R nor W where 22 holds
--     fault_21 .. fault_25            the rule that is named, from what the searches come to
--     fault_low                       it is at most 25
use mathlib.Core.Path.{◌≡◌, refl, sym, ap, ◌∙◌, subst}
use mathlib.Core.Logic.{⊎_elim}
use mathlib.Core.Bool.{Bool}
use mathlib.Core.List.{List}
use mathlib.Core.Option.{Option, none, some}
use Prim.Native.Nat.{ℕ, ◌<◌, ◌≤◌}
use native.Mathlib.Omega.{arith}
use lib.Dec.{T}
use lib.ListN.{length}
use Rattle.basis.specs.Test.{find, ◌else◌, mapped, across}
use Rattle.basis.proofs.BoolLaws.{and_elim}
use Rattle.basis.proofs.FindLaws.{find_none, else_none, none_else, else_cases, mapped_none, none_mapped, mapped_some}
use Rattle.format.specs.declared.Row.{Row}
use Rattle.format.specs.Execution.{Execution}
use Rattle.answer.specs.declared.Names.TheVariants.{Row as OfRow, Event as OfEvent, Between, Torn}
use Rattle.model.specs.Events.{numbers}
use Rattle.model.specs.Rules.{Fault, breaks21, breaks22, breaks23, breaks24, breaks25, faulty, fault21, fault22, fault23, fault24, fault25, fault}
use Rattle.model.proofs.EventsLaws.{number_mem}

-- the rules as tests of one entry of a list
abbrev pub test24 : Execution → (ℕ → ℕ → Bool) → Row × ℕ → Bool
test24 x hb p = breaks24 x hb p.0 p.1

abbrev pub test25 : Execution → ℕ × (ℕ × ℕ) → Bool
test25 x t = breaks25 x t.0 t.1.0 t.1.1

abbrev pub triples : Execution → List (ℕ × (ℕ × ℕ))
triples x = across (numbers x) (across (numbers x) (numbers x))

pub record Clean (x : Execution) (hb : ℕ → ℕ → Bool) : Type 0 where
  pub c21 : find (breaks21 x) x.rows ≡ none
  pub c22 : find (breaks22 hb) (numbers x) ≡ none
  pub c23 : find (breaks23 hb) x.rows ≡ none
  pub c24 : find (test24 x hb) (across x.rows (numbers x)) ≡ none
  pub c25 : find (test25 x) (triples x) ≡ none

-- what a search finds is named by a number of its own
numbered : {A : Type 0} (n : ℕ) (g : A → Fault) → ((a : A) → (g a).number ≡ n) → (o : Option A) (f : Fault) → mapped g o ≡ some f → f.number ≡ n
numbered n g h o f e = let w = mapped_some g o e in sym (ap (λ (k : Fault). k.number) w.2) ∙ h w.0

module _ (x : Execution) (hb : ℕ → ℕ → Bool) where
  pub clean : fault x hb ≡ none → Clean x hb
  unfolding fault fault21 fault22 fault23 fault24 fault25
  clean e =
      let p = else_none _ _ e in
      let q = else_none _ _ p.1 in
      let r = else_none _ _ q.1 in
      let s = else_none _ _ r.1 in
      record { c21 = mapped_none _ _ p.0; c22 = mapped_none _ _ q.0; c23 = mapped_none _ _ r.0; c24 = mapped_none _ _ s.0; c25 = mapped_none _ _ s.1 }

  pub fault_none : Clean x hb → fault x hb ≡ none
  unfolding fault fault21 fault22 fault23 fault24 fault25
  fault_none c =
      none_else _ _ (none_mapped _ _ c.c21) (none_else _ _ (none_mapped _ _ c.c22) (none_else _ _ (none_mapped _ _ c.c23)
      (none_else _ _ (none_mapped _ _ c.c24) (none_mapped _ _ c.c25))))

  -- where no event happens before itself
  pub between_apart : find (breaks22 hb) (numbers x) ≡ none → (r : Row) (v : ℕ) → v < length x.events → T (breaks24 x hb r v)
      → (v ≡ r.reader → ⊥) × (v ≡ r.writer → ⊥)
  unfolding breaks24 breaks22
  between_apart c r v h t =
      let w = and_elim _ _ (and_elim _ _ t).1 in
      let no : T (hb v v) → ⊥ = λ k. find_none (breaks22 hb) (numbers x) c v (number_mem x v h) k in (
        λ q. no (subst (λ (i : ℕ). T (hb v i)) (sym q) w.1),
        λ q. no (subst (λ (i : ℕ). T (hb i v)) (sym q) w.0),
      )

  -- ---- which is named

  pub fault_21 : (r : Row) → find (breaks21 x) x.rows ≡ some r → fault x hb ≡ some (faulty 21 (OfRow r.reader r.writer r.address))
  unfolding fault fault21 ◌else◌ mapped
  fault_21 r e = rw e

  pub fault_22 : (e : ℕ) → find (breaks21 x) x.rows ≡ none → find (breaks22 hb) (numbers x) ≡ some e → fault x hb ≡ some (faulty 22 (OfEvent e))
  unfolding fault fault21 fault22 ◌else◌ mapped
  fault_22 e a b = rw (a, b)

  pub fault_23 : (r : Row) → find (breaks21 x) x.rows ≡ none → find (breaks22 hb) (numbers x) ≡ none → find (breaks23 hb) x.rows ≡ some r
      → fault x hb ≡ some (faulty 23 (OfRow r.reader r.writer r.address))
  unfolding fault fault21 fault22 fault23 ◌else◌ mapped
  fault_23 r a b c = rw (a, b, c)

  pub fault_24 : (r : Row) (v : ℕ) → find (breaks21 x) x.rows ≡ none → find (breaks22 hb) (numbers x) ≡ none → find (breaks23 hb) x.rows ≡ none
      → find (test24 x hb) (across x.rows (numbers x)) ≡ some (r, v) → fault x hb ≡ some (faulty 24 (Between r.reader r.writer v r.address))
  unfolding fault fault21 fault22 fault23 fault24 ◌else◌ mapped
  fault_24 r v a b c d = rw (a, b, c, d)

  pub fault_25 : (r w v : ℕ) → find (breaks21 x) x.rows ≡ none → find (breaks22 hb) (numbers x) ≡ none → find (breaks23 hb) x.rows ≡ none
      → find (test24 x hb) (across x.rows (numbers x)) ≡ none → find (test25 x) (triples x) ≡ some (r, (w, v)) → fault x hb ≡ some (faulty 25 (Torn r w v))
  unfolding fault fault21 fault22 fault23 fault24 fault25 ◌else◌ mapped
  fault_25 r w v a b c d e = rw (a, b, c, d, e)

  pub fault_low : (f : Fault) → fault x hb ≡ some f → f.number ≤ 25
  unfolding fault fault21 fault22 fault23 fault24 fault25
  fault_low f e =
      ⊎_elim (λ a. let z = numbered 21 _ (λ r. refl) _ f a in omega arith)
      (λ p. ⊎_elim (λ a. let z = numbered 22 _ (λ r. refl) _ f a in omega arith)
      (λ q. ⊎_elim (λ a. let z = numbered 23 _ (λ r. refl) _ f a in omega arith)
      (λ r. ⊎_elim (λ a. let z = numbered 24 _ (λ r. refl) _ f a in omega arith)
      (λ t. let z = numbered 25 _ (λ r. refl) _ f t.1 in omega arith) (else_cases _ _ r.1)) (else_cases _ _ q.1)) (else_cases _ _ p.1)) (else_cases _ _ e)
