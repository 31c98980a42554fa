-- A fault that is named is what 02's words say (specs/Means.antt). Assumes nothing.
--     found_least      a search through numbers finds the least
--     found_pair       a search through rows and numbers finds the first row, and its least number
--     fault_means      the fault that `list_fault` names
use mathlib.Core.Path.{◌≡◌, refl, sym, ap, ◌∙◌, subst}
use mathlib.Core.Bool.{Bool, true, false, cond}
use mathlib.Core.Logic.{inl, inr, ⊎_elim}
use mathlib.Core.List.{List, [], ◌∷◌}
use mathlib.Core.Option.{Option, none, some, none-ne-some}
use Prim.Native.Nat.{ℕ, zero, suc, ◌<◌, min}
use native.Mathlib.Omega.{arith}
use borrow.Author.Tests.{eq-eqb, ltb-true, ltb-false}
use lib.Dec.{T, eqb, ltb}
use lib.ListN.{length, get_or}
use Rattle.basis.specs.Test.{non, find, ◌else◌, across, from}
use Rattle.basis.proofs.BoolLaws.{by_bool, not_both_ways, T_false, or_either, non_true}
use Rattle.basis.proofs.ListLaws.{from_mem}
use Rattle.basis.proofs.FindLaws.{find_none, else_cases, mapped_some, same_some, across_found, across_more}
use Rattle.format.specs.declared.Row.{Row}
use Rattle.format.specs.Execution.{blank_row}
use Rattle.cells.specs.First.{first_of}
use Rattle.cells.proofs.FirstLaws.{first_of_lem, first_find}
use Rattle.orders.specs.Order.{Precedes}
use Rattle.orders.proofs.OrderLaws.{precedes_in}
use Rattle.orders.proofs.PlaceLaws.{in_at}
use Rattle.log_order.specs.declared.Fault.{Fault}
use Rattle.log_order.specs.declared.Fault.TheVariants.{WrongLength, BadNumber, TooEarly, Barred}
use Rattle.log_order.specs.Listed.{stood, Trial, bad_at, early_at, barred_at, longest, length_fault, number_fault, early_fault, bar_fault, list_fault}
use Rattle.log_order.specs.Means.{Once, Bad, Early, Crossed, IsBarred, Means}
use Rattle.log_order.specs.Promises.{Strict}
use Rattle.log_order.proofs.ListLaws.{stood_at, at_stood, bad_range, bad_again, is_event, is_once, is_all}
use Rattle.log_order.proofs.MeetsLaws.{right_length, number_none, early_nothing, late_at, at_late, barred_at_lem, at_barred, in_order}

-- ---- searches

pub record Least (p : ℕ → Bool) (n i : ℕ) : Type 0 where
  pub within : i < n
  pub passes : p i ≡ true
  pub least : (d : ℕ) → d < i → p d ≡ false

found_least : (p : ℕ → Bool) (n i : ℕ) → find p (from 0 n) ≡ some i → Least p n i
found_least p n i h =
    by_bool (ltb (first_of p n) n)
    (λ e.
    let z = ltb-true (first_of p n) n e in
    let s = same_some (sym (ap (λ (b : Bool). cond b (some (first_of p n)) none) e) ∙ sym (first_find p n) ∙ h) in
    let f = first_of_lem p n in
    subst (Least p n) s (record { within = z; passes = f.passes z; least = f.least }))
    (λ e. absurd (none-ne-some _ (sym (ap (λ (b : Bool). cond b (some (first_of p n)) none) e) ∙ sym (first_find p n) ∙ h)))

pub record FirstPair (f : Row × ℕ → Bool) (l : List Row) (n : ℕ) (r : Row) (v : ℕ) : Type 0 where
  pub number : ℕ
  pub there : number < length l
  pub row : get_or l number blank_row ≡ r
  pub below : v < n
  pub passes : f (r, v) ≡ true
  pub first : (i : ℕ) → i < number → (u : ℕ) → u < n → f (get_or l i blank_row, u) ≡ false
  pub lowest : (u : ℕ) → u < v → f (r, u) ≡ false

found_pair : (f : Row × ℕ → Bool) (l : List Row) (n : ℕ) (r : Row) (v : ℕ) → find f (across l (from 0 n)) ≡ some (r, v) → FirstPair f l n r v
unfolding across find
found_pair f [] n r v h = absurd (none-ne-some _ h)
found_pair f (a ∷ l) n r v h = go (find (λ (u : ℕ). f (a, u)) (from 0 n)) refl (found_pair f l n r v)
  where
    earlier : (w : FirstPair f l n r v) → find (λ (u : ℕ). f (a, u)) (from 0 n) ≡ none → (i : ℕ) → i < suc w.number → (u : ℕ) → u < n → f (get_or (a ∷ l) i blank_row, u) ≡ false
    earlier w e zero k u b = T_false (f (a, u)) (find_none (λ (d : ℕ). f (a, d)) (from 0 n) e u (from_mem n 0 u (omega arith) (omega arith)))
    earlier w e (suc i) k u b = w.first i (omega arith) u b

    go : (o : Option ℕ) → find (λ (u : ℕ). f (a, u)) (from 0 n) ≡ o → (find f (across l (from 0 n)) ≡ some (r, v) → FirstPair f l n r v) → FirstPair f (a ∷ l) n r v
    go none e ih =
        let w = ih (sym (across_more f (a ∷ l) (from 0 n) 0 a refl (omega arith) e) ∙ h) in
        record {
          number = suc w.number;
          there = let k = w.there in omega arith;
          row = w.row;
          below = w.below;
          passes = w.passes;
          first = earlier w e;
          lowest = w.lowest;
        }
    go (some u) e ih =
        let s = same_some (sym (across_found f (a ∷ l) (from 0 n) 0 a refl (omega arith) u e) ∙ h) in
        let x = found_least (λ (d : ℕ). f (a, d)) n u e in
        let p : a ≡ r = ap (λ (z : Row × ℕ). z.0) s in
        let q : u ≡ v = ap (λ (z : Row × ℕ). z.1) s in
        record {
          number = 0;
          there = omega arith;
          row = p;
          below = let k = x.within in omega arith;
          passes = subst (λ (z : Row × ℕ). f z ≡ true) s x.passes;
          first = λ i k. absurd (omega arith);
          lowest = λ d k. subst (λ (z : Row). f (z, d) ≡ false) p (x.least d (omega arith));
        }

-- ---- which fault

bad_fact : (n : ℕ) (l : List ℕ) (i : ℕ) → bad_at n l i ≡ true → Bad n l i
unfolding bad_at
bad_fact n l i h =
    ⊎_elim (λ a. inl (ltb-false (get_or l i 0) n (non_true (ltb (get_or l i 0) n) a))) (λ a. inr (stood_at l i (get_or l i 0) a))
    (or_either (non (ltb (get_or l i 0) n)) (stood l i (get_or l i 0)) h)

fact_bad : (n : ℕ) (l : List ℕ) (i : ℕ) → Bad n l i → bad_at n l i ≡ true
fact_bad n l i (inl h) = bad_range n l i h
fact_bad n l i (inr w) = bad_again n l i (subst (λ (x : ℕ). stood l i x ≡ true) w.2 (at_stood l i w.0 w.1))

module _ (c : Trial) (strict : Strict c) (l : List ℕ) where
  wrong_fact : (f : Fault) → length_fault c l ≡ some f → Means c l f
  unfolding length_fault
  wrong_fact f h =
      by_bool (eqb (length l) c.events)
      (λ e. absurd (none-ne-some _ (sym (ap (λ (b : Bool). cond b none (some (WrongLength (min (length l) longest)))) e) ∙ h)))
      (λ e.
      let s = same_some (sym (ap (λ (b : Bool). cond b none (some (WrongLength (min (length l) longest)))) e) ∙ h) in
      subst (Means c l) s (record { wrong = λ p. not_both_ways (eq-eqb (length l) c.events p) e; told = refl }))

  module _ (long : length l ≡ c.events) where
    bad_means : (f : Fault) → number_fault c l ≡ some f → Means c l f
    unfolding number_fault
    bad_means f h =
        let w = mapped_some (λ (i : ℕ). BadNumber i) _ h in
        let x = found_least (bad_at c.events l) (length l) w.0 w.1 in
        subst (Means c l) w.2
        (record {
          long = long;
          place = x.within;
          bad = bad_fact c.events l w.0 x.passes;
          first = λ k i b. not_both_ways (fact_bad c.events l k b) (x.least k i);
        })

    module _ (numbers : (i : ℕ) → i < length l → bad_at c.events l i ≡ false) where
      once : Once c.events l
      once = record { events = is_event c.events l long numbers; all = is_all c.events l long numbers; once = is_once c.events l long numbers }

      early_fact : (i : ℕ) → early_at c l i ≡ true → Early c l i
      early_fact i h = let w = late_at c l i h in (w.0, w.2, w.3)

      fact_early : (i : ℕ) → Early c l i → early_at c l i ≡ true
      fact_early i w = at_late c l i w.0 (strict.inside w.0 (get_or l i 0) w.1).0 w.1 w.2

      early_means : (f : Fault) → early_fault c l ≡ some f → Means c l f
      unfolding early_fault
      early_means f h =
          let w = mapped_some (λ (i : ℕ). TooEarly i) _ h in
          let x = found_least (early_at c l) (length l) w.0 w.1 in
          subst (Means c l) w.2
          (record { events = once; place = x.within; early = early_fact w.0 x.passes; first = λ k i b. not_both_ways (fact_early k b) (x.least k i) })

      module _ (later : (i : ℕ) → i < length l → early_at c l i ≡ false) where
        kept : (a b : ℕ) → T (c.before a b) → Precedes a b l
        kept a b h =
            let w = in_at b l (is_all c.events l long numbers b (strict.inside a b h).1) in
            subst (λ (x : ℕ). Precedes a x l) w.2 (in_order c l strict long numbers w.0 w.1 (later w.0 w.1) a (subst (λ (x : ℕ). T (c.before a x)) (sym w.2) h))

        event_of_lem : (r : Row) (u : ℕ) → Crossed c l r u → u < c.events
        event_of_lem r u x = is_event c.events l long numbers u (precedes_in r.writer u l x.0)

        is_barred : (r : Row) (v : ℕ) → FirstPair (barred_at c l) c.rows c.events r v → IsBarred c l r v
        is_barred r v w =
            record {
              events = once;
              kept = kept;
              number = w.number;
              there = w.there;
              row = w.row;
              crossed = barred_at_lem c l r v w.passes;
              first = λ i k u x. not_both_ways (at_barred c l (get_or c.rows i blank_row) u x.0 x.1 x.2) (w.first i k u (event_of_lem (get_or c.rows i blank_row) u x));
              lowest = λ u k x. not_both_ways (at_barred c l r u x.0 x.1 x.2) (w.lowest u k);
            }

        barred_means : (f : Fault) → bar_fault c l ≡ some f → Means c l f
        unfolding bar_fault
        barred_means f h =
            let w = mapped_some (λ (p : Row × ℕ). Barred p.0.reader p.0.writer p.1 p.0.address) _ h in
            subst (Means c l) w.2 (is_barred w.0.0 w.0.1 (found_pair (barred_at c l) c.rows c.events w.0.0 w.0.1 w.1))

  pub fault_means : (f : Fault) → list_fault c l ≡ some f → Means c l f
  unfolding list_fault
  fault_means f h =
      ⊎_elim (wrong_fact f)
      (λ a.
      let long = right_length c l a.0 in
      ⊎_elim (bad_means long f)
      (λ b.
      let numbers = number_none c l b.0 in
      ⊎_elim (early_means long numbers f) (λ d. barred_means long numbers (early_nothing c l d.0) f d.1)
      (else_cases (early_fault c l) (bar_fault c l) b.1))
      (else_cases (number_fault c l) (early_fault c l else bar_fault c l) a.1))
      (else_cases (length_fault c l) (number_fault c l else early_fault c l else bar_fault c l) h)
