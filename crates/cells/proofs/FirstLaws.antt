-- The laws of specs/First.antt. Assumes nothing.
--     first_of_lem            first_of is the first                   first_unique, first_is     there is one
--     first_found, first_none     what a loop answers            first_find                 as a search through a list
--     first_or            of two tests together
--     first_past, first_below     a loop that has come to the end or beyond; two tests that agree below n
--     some_here, some_none     what a search answers as an Option     some_is, none_is     what its answer says
--     some_from_range         of `find` over a range
--     some_or, some_left, some_right     of two tests together, by what two searches answer
--     Left, left_start, left_hit, left_next, left_end     a loop over the members of a set, for the first that passes
use mathlib.Core.Path.{◌≡◌, refl, sym, ap, ◌∙◌, subst}
use mathlib.Core.Bool.{Bool, true, false, cond}
use mathlib.Core.Logic.{⊎_elim}
use mathlib.Core.Option.{none, some}
use Prim.Native.Nat.{ℕ, zero, suc, ◌^◌, ◌≤◌, ◌<◌, min}
use native.Mathlib.Omega.{arith}
use native.Mathlib.Decide.{dec_lt}
use borrow.Author.Tests.{ltb-true, ltb-false, lt-ltb, le-ltb}
use lib.Dec.{ltb}
use Rattle.basis.specs.Test.{◌and◌, ◌or◌, find, from}
use Rattle.basis.proofs.BoolLaws.{and_holds, and_both, or_holds, or_fails, or_second, by_bool, not_both_ways, false_of}
use Rattle.basis.proofs.FindLaws.{find_at, find_no}
use Rattle.std.specs.Prelude.{Option, Some, None}
use Rattle.std.specs.Option.{MatchOption}
use Rattle.sets.specs.Mask.{slots, mem, Has, remove, Lowest}
use Rattle.sets.specs.Members.{Taken}
use Rattle.sets.proofs.MaskLaws.{mem_empty, mem_lt, remove_le, remove_old, remove_cases}
use Rattle.cells.specs.First.{first_of, first_some, First}

module _ (p : ℕ → Bool) where
  pub first_unique : (n a b : ℕ) → First p n a → First p n b → a ≡ b
  first_unique n a b f g = go (dec_lt a b) (dec_lt b a)
    where
      go : Dec (a < b) → Dec (b < a) → a ≡ b
      go (yes h) k = let z = g.within in absurd (not_both_ways (f.passes (omega arith)) (g.least a h))
      go (no h) (yes k) = let z = f.within in absurd (not_both_ways (g.passes (omega arith)) (f.least b k))
      go (no h) (no k) = omega (arith, h, k)

  pub first_of_lem : (n : ℕ) → First p n (first_of p n)
  unfolding first_of
  first_of_lem zero = record { within = omega arith; passes = λ h. absurd (omega arith); least = λ d h. absurd (omega arith) }
  first_of_lem (suc n) = by_bool (ltb (first_of p n) n) (old (first_of_lem n)) (new (first_of_lem n))
    where
      old : First p n (first_of p n) → ltb (first_of p n) n ≡ true → First p (suc n) (cond (ltb (first_of p n) n) (first_of p n) (cond (p n) n (suc n)))
      old f e =
          subst (First p (suc n)) (sym (ap (λ (b : Bool). cond b (first_of p n) (cond (p n) n (suc n))) e))
          (let z = ltb-true (first_of p n) n e in record { within = omega arith; passes = λ h. f.passes z; least = f.least })

      new : First p n (first_of p n) → ltb (first_of p n) n ≡ false → First p (suc n) (cond (ltb (first_of p n) n) (first_of p n) (cond (p n) n (suc n)))
      new f e =
          subst (First p (suc n)) (sym (ap (λ (b : Bool). cond b (first_of p n) (cond (p n) n (suc n))) e))
          (let z = ltb-false (first_of p n) n e in
          by_bool (p n)
          (λ y. subst (First p (suc n)) (sym (ap (λ (b : Bool). cond b n (suc n)) y)) (record { within = omega arith; passes = λ h. y; least = λ d h. f.least d (omega arith) }))
          (λ y. subst (First p (suc n)) (sym (ap (λ (b : Bool). cond b n (suc n)) y)) (record { within = omega arith; passes = λ h. absurd (omega arith); least = λ d h. at f y z d h (dec_lt d n) })))
        where
          at : First p n (first_of p n) → p n ≡ false → n ≤ first_of p n → (d : ℕ) → d < suc n → Dec (d < n) → p d ≡ false
          at g y z d h (yes k) = g.least d (omega arith)
          at g y z d h (no k) = let q : d ≡ n = omega (arith, k) in ap p q ∙ y

  pub first_is : {n r : ℕ} → First p n r → r ≡ first_of p n
  first_is {n} {r} f = first_unique n r (first_of p n) f (first_of_lem n)

  -- a loop that has come to j and passes, or has come to the end
  pub first_found : (n j : ℕ) → j < n → ((d : ℕ) → d < j → p d ≡ false) → p j ≡ true → j ≡ first_of p n
  first_found n j h l y = first_is (record { within = omega arith; passes = λ k. y; least = l })

  pub first_none : (n j : ℕ) → n ≤ j → j ≤ n → ((d : ℕ) → d < j → p d ≡ false) → n ≡ first_of p n
  first_none n j h k l = first_is (record { within = omega arith; passes = λ z. absurd (omega arith); least = λ d z. l d (omega arith) })

  pub first_find : (n : ℕ) → find p (from 0 n) ≡ cond (ltb (first_of p n) n) (some (first_of p n)) none
  first_find n =
      let f = first_of_lem n in
      by_bool (ltb (first_of p n) n)
      (λ e. let z = ltb-true (first_of p n) n e in find_at p n (first_of p n) z (f.passes z) f.least ∙ sym (ap (λ (b : Bool). cond b (some (first_of p n)) none) e))
      (λ e. let z = ltb-false (first_of p n) n e in find_no p n (λ d h. f.least d (omega arith)) ∙ sym (ap (λ (b : Bool). cond b (some (first_of p n)) none) e))

-- of two tests together
pub first_or : (p q : ℕ → Bool) (n : ℕ) → min (first_of p n) (first_of q n) ≡ first_of (λ (d : ℕ). p d or q d) n
unfolding ◌or◌
first_or p q n =
    let f = first_of_lem p n in
    let g = first_of_lem q n in
    first_is (λ (d : ℕ). p d or q d)
    (record {
      within = let z = f.within in omega arith;
      passes = λ h. either f g (dec_lt (first_of q n) (first_of p n)) h;
      least = λ d h. or_fails (p d) (q d) (f.least d (omega arith)) ∙ g.least d (omega arith);
    })
  where
    either : First p n (first_of p n) → First q n (first_of q n) → Dec (first_of q n < first_of p n) → min (first_of p n) (first_of q n) < n
        → (p (min (first_of p n) (first_of q n)) or q (min (first_of p n) (first_of q n))) ≡ true
    either f g (yes k) h =
        let e : min (first_of p n) (first_of q n) ≡ first_of q n = omega arith in
        subst (λ (x : ℕ). (p x or q x) ≡ true) (sym e) (or_second (p (first_of q n)) _ (g.passes (omega arith)))
    either f g (no k) h =
        let e : min (first_of p n) (first_of q n) ≡ first_of p n = omega (arith, k) in
        subst (λ (x : ℕ). (p x or q x) ≡ true) (sym e) (or_holds (p (first_of p n)) (q (first_of p n)) (f.passes (omega arith)))

pub first_past : (p : ℕ → Bool) (n j : ℕ) → n ≤ j → ((d : ℕ) → d < j → p d ≡ false) → n ≡ first_of p n
first_past p n j h l = first_is p (record { within = omega arith; passes = λ z. absurd (omega arith); least = λ d z. l d (omega arith) })

-- two tests that agree below n
pub first_below : (p q : ℕ → Bool) (n k : ℕ) → n ≤ k → ((d : ℕ) → d < n → p d ≡ q d) → min (first_of p k) n ≡ first_of q n
first_below p q n k few same =
    let f = first_of_lem p k in
    first_is q
    (record {
      within = omega arith;
      passes = λ h. let z : min (first_of p k) n ≡ first_of p k = omega arith in sym (same (min (first_of p k) n) h) ∙ ap p z ∙ f.passes (omega arith);
      least = λ d h. sym (same d (omega arith)) ∙ f.least d (omega arith);
    })

-- ---- as an Option

module _ (p : ℕ → Bool) (n : ℕ) where
  pub some_at : first_of p n < n → Some (first_of p n) ≡ first_some p n
  unfolding first_some
  some_at h = sym (ap (λ (b : Bool). cond b (Some (first_of p n)) None) (lt-ltb (first_of p n) n h))

  pub none_at : n ≤ first_of p n → None ≡ first_some p n
  unfolding first_some
  none_at h = sym (ap (λ (b : Bool). cond b (Some (first_of p n)) None) (le-ltb (first_of p n) n h))

  pub some_here : (j : ℕ) → j < n → ((d : ℕ) → d < j → p d ≡ false) → p j ≡ true → Some j ≡ first_some p n
  some_here j h l y = let e = first_found p n j h l y in ap Some e ∙ some_at (omega arith)

  pub some_none : ((d : ℕ) → d < n → p d ≡ false) → None ≡ first_some p n
  some_none l = let e = first_none p n n (omega arith) (omega arith) l in none_at (omega arith)

  pub some_is : (r : Option ℕ) (j : ℕ) → r ≡ first_some p n → r ≡ Some j → (j ≡ first_of p n) × (j < n)
  unfolding first_some
  some_is r j e f =
      by_bool (ltb (first_of p n) n)
      (λ y. let z = ltb-true (first_of p n) n y in let g : Some j ≡ Some (first_of p n) = sym f ∙ e ∙ ap (λ (b : Bool). cond b (Some (first_of p n)) None) y in let k : j ≡ first_of p n = cc in (k, omega arith))
      (λ y. let g : Some j ≡ None = sym f ∙ e ∙ ap (λ (b : Bool). cond b (Some (first_of p n)) None) y in (cc))

  pub none_is : (r : Option ℕ) → r ≡ first_some p n → r ≡ None → n ≤ first_of p n
  unfolding first_some
  none_is r e f =
      by_bool (ltb (first_of p n) n)
      (λ y. let g : None ≡ Some (first_of p n) = sym f ∙ e ∙ ap (λ (b : Bool). cond b (Some (first_of p n)) None) y in absurd (cc))
      (λ y. ltb-false (first_of p n) n y)

  pub some_from_range : (r : Option ℕ) (m : ℕ) (Yes No : ℕ → Type 0) → MatchOption r ((k : ℕ) → 0 ≤ k → k < m → No k) (λ (i : ℕ). (0 ≤ i) × (i < m) × Yes i × ((k : ℕ) → 0 ≤ k → k < i → No k))
      → m ≡ n → ((i : ℕ) → i < n → Yes i → p i ≡ true) → ((i : ℕ) → i < n → No i → p i ≡ false) → r ≡ first_some p n
  some_from_range (Some j) m Yes No f e good bad = let l : j < n = let k = f.1 in omega arith in some_here j l (λ d h. bad d (omega arith) (f.3 d (omega arith) h)) (good j l f.2)
  some_from_range None m Yes No f e good bad = some_none (λ d h. bad d h (f d (omega arith) (omega arith)))

-- of two tests together, of what two searches answer
module _ (p q : ℕ → Bool) (n : ℕ) where
  pub some_or : (a b : ℕ) → Some a ≡ first_some p n → Some b ≡ first_some q n → Some (min a b) ≡ first_some (λ (d : ℕ). p d or q d) n
  some_or a b e f =
      let x = some_is p n (Some a) a e refl in
      let y = some_is q n (Some b) b f refl in
      let z = first_or p q n in
      let w : min a b ≡ first_of (λ (d : ℕ). p d or q d) n = omega arith in
      ap Some w ∙ some_at (λ (d : ℕ). p d or q d) n (omega arith)

  pub some_left : (r : Option ℕ) → r ≡ first_some p n → None ≡ first_some q n → r ≡ first_some (λ (d : ℕ). p d or q d) n
  some_left None e f =
      let x = none_is p n None e refl in
      let y = none_is q n None f refl in
      let z = first_or p q n in
      none_at (λ (d : ℕ). p d or q d) n (omega arith)
  some_left (Some a) e f =
      let x = some_is p n (Some a) a e refl in
      let y = none_is q n None f refl in
      let k = (first_of_lem q n).within in
      let z = first_or p q n in
      let w : a ≡ first_of (λ (d : ℕ). p d or q d) n = omega arith in
      ap Some w ∙ some_at (λ (d : ℕ). p d or q d) n (omega arith)

  pub some_right : (r : Option ℕ) → r ≡ first_some q n → None ≡ first_some p n → r ≡ first_some (λ (d : ℕ). p d or q d) n
  some_right None e f =
      let x = none_is p n None f refl in
      let y = none_is q n None e refl in
      let z = first_or p q n in
      none_at (λ (d : ℕ). p d or q d) n (omega arith)
  some_right (Some a) e f =
      let x = none_is p n None f refl in
      let y = some_is q n (Some a) a e refl in
      let k = (first_of_lem p n).within in
      let z = first_or p q n in
      let w : a ≡ first_of (λ (d : ℕ). p d or q d) n = omega arith in
      ap Some w ∙ some_at (λ (d : ℕ). p d or q d) n (omega arith)

-- ---- the members of a set

-- left has the members of m of which nothing is known yet: those that are gone do not pass
pub record Left (g : ℕ → Bool) (m left : ℕ) : Type 0 where
  pub width : left < 2 ^ slots
  pub of : (d : ℕ) → Has left d → Has m d
  pub done : (d : ℕ) → Has m d → g d ≡ true → Has left d

pub left_start : (g : ℕ → Bool) (m : ℕ) → m < 2 ^ slots → Left g m m
left_start g m l = record { width = l; of = λ d h. h; done = λ d h k. h }

module _ {g : ℕ → Bool} {m left : ℕ} (have : Left g m left) where
  passed : (d : ℕ) → (mem m d and g d) ≡ true → Has left d
  passed d e = let w = and_both (mem m d) (g d) e in have.done d w.0 w.1

  module _ (v t : ℕ) (k : Taken left v t) where
    pub left_hit : g v ≡ true → Some v ≡ first_some (λ (d : ℕ). mem m d and g d) slots
    left_hit y =
        some_here (λ (d : ℕ). mem m d and g d) slots v k.slot (λ d l. false_of _ (λ e. not_both_ways (passed d e) (k.low.least d l)))
        (and_holds (mem m v) (g v) (have.of v k.member) ∙ y)

    pub left_next : g v ≡ false → Left g m t
    left_next n = subst (Left g m) (sym k.rest)
        (record {
          width = let q = remove_le left v in let l = have.width in omega arith;
          of = λ d h. have.of d (remove_old left v d h);
          done = λ d h y. ⊎_elim (λ p. absurd (not_both_ways y (ap g p ∙ n))) (λ r. r) (remove_cases left v d (have.done d h y));
        })

  pub left_end : left ≡ 0 → None ≡ first_some (λ (d : ℕ). mem m d and g d) slots
  left_end z = some_none (λ (d : ℕ). mem m d and g d) slots (λ d l. false_of _ (λ e. not_both_ways (passed d e) (ap (λ (i : ℕ). mem i d) z ∙ mem_empty d)))
