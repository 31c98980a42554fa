-- Whether some entry of a list passes a test, whether all do, and how many (specs/Test.antt). Assumes nothing.
--     any_elim, any_intro, any_at, none_intro     one that passes is enough; none passes
--     any_none, any_found, any_more               where a loop has come to index i: no entry is left; entry i passes; it does not, and the loop goes on
--     any_same, any_each, any_one, any_snoc, any_next     two tests that agree on the list; a mapped list; one entry, one more; one number more
--     all_intro, all_number                       every entry passes: exactly when as many as there are
--     number_le, number_both, number_snoc, number_append     at most all; a test and its opposite; one entry more; two lists
--     number_front                                where those that pass stand in front, they are the first so many
use mathlib.Core.Path.{◌≡◌, refl, sym, ap, ◌∙◌, subst}
use mathlib.Core.Logic.{◌⊎◌, inl, inr}
use mathlib.Core.Bool.{Bool, true, false, cond}
use mathlib.Core.List.{List, [], ◌∷◌, ◌++◌, Memᴰ}
use Prim.Native.Nat.{ℕ, zero, suc, ◌+◌, ◌≤◌, ◌<◌}
use native.Mathlib.Omega.{arith}
use native.Mathlib.Numerals.{add-one}
use native.Mathlib.Nat.{zero-add}
use lib.Dec.{T, eqb, eqb-suc-suc}
use lib.ListN.{length, get_or, drop, drop_of_length-le}
use lib.Seq.{drop-cons}
use borrow.Author.Tests.{ne_eqb}
use Rattle.basis.specs.Test.{◌and◌, ◌or◌, non, any, all, number, each, from}
use Rattle.basis.proofs.BoolLaws.{true_T, T_true, T_false, or_cases, or_left, or_right, or_none, or_assoc, both_hold}
use Rattle.basis.proofs.ListLaws.{from_next}

module _ {A : Type 0} where
  pub any_elim : (f : A → Bool) (l : List A) → T (any f l) → (a : A) × Memᴰ a l × T (f a)
  unfolding any
  any_elim f [] t = absurd t
  any_elim f (a ∷ l) t = go (any_elim f l) (or_cases (f a) (any f l) t)
    where
      go : (T (any f l) → (c : A) × Memᴰ c l × T (f c)) → T (f a) ⊎ T (any f l) → (c : A) × Memᴰ c (a ∷ l) × T (f c)
      go ih (inl s) = (a, Memᴰ.head refl, s)
      go ih (inr s) = let w = ih s in (w.0, Memᴰ.tail w.1, w.2)

  any_intro_of : (f : A → Bool) (a : A) (l : List A) → Memᴰ a l → T (f a) → T (any f l)
  unfolding any
  any_intro_of f a l (Memᴰ.head {x = b} {xs = k} e) t = or_left (f b) (any f k) (subst (λ (c : A). T (f c)) e t)
  any_intro_of f a l (Memᴰ.tail {x = b} {xs = k} m) t = or_right (f b) (any f k) (any_intro_of f a k m t)

  pub any_intro : (f : A → Bool) (l : List A) (a : A) → Memᴰ a l → T (f a) → T (any f l)
  any_intro f l a m t = any_intro_of f a l m t

module _ {A : Type 0} (p : A → Bool) (l : List A) where
  any_step : (i : ℕ) (d : A) → i < length l → any p (drop i l) ≡ (p (get_or l i d) or any p (drop (i + 1) l))
  unfolding any
  any_step i d h = rw (add-one, drop-cons l i d)

  pub any_none : (i : ℕ) → any p l ≡ any p (drop i l) → length l ≤ i → false ≡ any p l
  unfolding any
  any_none i e h = sym (e ∙ rw (drop_of_length-le l {i = i} h))

  pub any_found : (i : ℕ) (d : A) → any p l ≡ any p (drop i l) → i < length l → p (get_or l i d) ≡ true → true ≡ any p l
  unfolding ◌or◌
  any_found i d e h y = sym (e ∙ any_step i d h ∙ ap (λ (b : Bool). b or any p (drop (i + 1) l)) y)

  pub any_more : (i : ℕ) (d : A) → any p l ≡ any p (drop i l) → i < length l → p (get_or l i d) ≡ false → any p l ≡ any p (drop (i + 1) l)
  unfolding ◌or◌
  any_more i d e h y = e ∙ any_step i d h ∙ ap (λ (b : Bool). b or any p (drop (i + 1) l)) y

module _ {A : Type 0} (p : A → Bool) where
  -- one that passes is enough, wherever it stands
  pub any_at : (l : List A) (i : ℕ) (d : A) → i < length l → p (get_or l i d) ≡ true → any p l ≡ true
  unfolding any ◌or◌
  any_at [] i d h y = absurd (omega arith)
  any_at (a ∷ l) zero d h y = ap (λ (b : Bool). b or any p l) y
  any_at (a ∷ l) (suc i) d h y = go (p a) (any_at l i d (omega arith) y)
    where
      go : (b : Bool) → any p l ≡ true → (b or any p l) ≡ true
      go true e = refl
      go false e = e

  pub number_snoc : (l : List A) (a : A) → number p (l ++ (a ∷ [])) ≡ cond (p a) (number p l + 1) (number p l)
  unfolding number
  number_snoc [] a = refl
  number_snoc (b ∷ l) a = go (p b) (p a) (number_snoc l a)
    where
      go : (x y : Bool) → number p (l ++ (a ∷ [])) ≡ cond y (number p l + 1) (number p l)
          → cond x (suc (number p (l ++ (a ∷ [])))) (number p (l ++ (a ∷ []))) ≡ cond y (cond x (suc (number p l)) (number p l) + 1) (cond x (suc (number p l)) (number p l))
      go true true e = omega arith
      go true false e = ap suc e
      go false y e = e

  pub number_le : (l : List A) → number p l ≤ length l
  unfolding number
  number_le [] = omega arith
  number_le (a ∷ l) = go (p a) (number_le l)
    where
      go : (x : Bool) → number p l ≤ length l → cond x (suc (number p l)) (number p l) ≤ suc (length l)
      go true h = omega arith
      go false h = omega arith

  pub number_both : (l : List A) → number p l + number (λ (a : A). non (p a)) l ≡ length l
  unfolding number non
  number_both [] = refl
  number_both (a ∷ l) = go (p a) (number_both l)
    where
      go : (x : Bool) → number p l + number (λ (b : A). non (p b)) l ≡ length l
          → cond x (suc (number p l)) (number p l) + cond (non x) (suc (number (λ (b : A). non (p b)) l)) (number (λ (b : A). non (p b)) l) ≡ suc (length l)
      go true e = omega arith
      go false e = omega arith

  pub all_number : (l : List A) → all p l ≡ eqb (number p l) (length l)
  unfolding all number ◌and◌
  all_number [] = refl
  all_number (a ∷ l) = go (p a) (all_number l) (number_le l)
    where
      go : (x : Bool) → all p l ≡ eqb (number p l) (length l) → number p l ≤ length l → (x and all p l) ≡ eqb (cond x (suc (number p l)) (number p l)) (suc (length l))
      go true e h = e ∙ sym (eqb-suc-suc (number p l) (length l))
      go false e h = sym (ne_eqb _ _ (λ (q : number p l ≡ suc (length l)). omega arith))

module _ {A : Type 0} (p : A → Bool) (d : A) where
  pub all_intro : (l : List A) → ((i : ℕ) → i < length l → T (p (get_or l i d))) → all p l ≡ true
  unfolding all
  all_intro [] h = refl
  all_intro (a ∷ l) h = both_hold (p a) (all p l) (T_true _ (h 0 (omega arith))) (all_intro l (λ i b. h (suc i) (omega arith)))

  pub none_intro : (l : List A) → ((i : ℕ) → i < length l → T (p (get_or l i d)) → ⊥) → any p l ≡ false
  unfolding any ◌or◌
  none_intro [] h = refl
  none_intro (a ∷ l) h =
      let e : p a ≡ false = T_false _ (h 0 (omega arith)) in
      ap (λ (b : Bool). b or any p l) e ∙ none_intro l (λ i b. h (suc i) (omega arith))

module _ {A : Type 0} (f g : A → Bool) where
  pub any_same : (l : List A) → ((a : A) → Memᴰ a l → f a ≡ g a) → any f l ≡ any g l
  unfolding any
  any_same [] h = refl
  any_same (a ∷ l) h = rw (h a (Memᴰ.head refl), any_same l (λ b m. h b (Memᴰ.tail m)))

pub any_each : {A B : Type 0} (f : B → Bool) (g : A → B) (l : List A) → any f (each g l) ≡ any (λ (a : A). f (g a)) l
unfolding any each
any_each f g [] = refl
any_each f g (a ∷ l) = ap (λ (z : Bool). f (g a) or z) (any_each f g l)

pub any_one : {A : Type 0} (f : A → Bool) (a : A) → any f (a ∷ []) ≡ f a
unfolding any
any_one f a = or_none (f a)

pub any_snoc : {A : Type 0} (f : A → Bool) (l : List A) (a : A) → any f (l ++ (a ∷ [])) ≡ (any f l or f a)
unfolding any ◌or◌
any_snoc f [] a = or_none (f a)
any_snoc f (b ∷ l) a = rw (any_snoc f l a) (sym (or_assoc (f b) (any f l) (f a)))

pub any_next : (f : ℕ → Bool) (k : ℕ) → any f (from 0 (suc k)) ≡ (any f (from 0 k) or f k)
any_next f k = ap (any f) (from_next 0 k) ∙ any_snoc f (from 0 k) (0 + k) ∙ ap (λ (i : ℕ). any f (from 0 k) or f i) (zero-add k)

module _ {A : Type 0} (p : A → Bool) where
  pub number_append : (l m : List A) → number p (l ++ m) ≡ number p l + number p m
  unfolding number
  number_append [] m = omega arith
  number_append (a ∷ l) m = go (p a) (number_append l m)
    where
      go : (b : Bool) → number p (l ++ m) ≡ number p l + number p m → cond b (suc (number p (l ++ m))) (number p (l ++ m)) ≡ cond b (suc (number p l)) (number p l) + number p m
      go true e = omega arith
      go false e = e

-- where the entries that pass stand in front, the first so many are those
pub number_front : {A : Type 0} (n : A) (f : A → Bool) (l : List A) → ((e d : ℕ) → e < d → d < length l → T (f (get_or l d n)) → T (f (get_or l e n)))
    → (e : ℕ) → e < number f l → T (f (get_or l e n))
unfolding number
number_front n f [] down e h = absurd (omega arith)
number_front n f (a ∷ l) down e h = go (f a) refl e h (number_front n f l (λ i j q k. down (suc i) (suc j) (omega arith) (omega arith)))
  where
    go : (b : Bool) → f a ≡ b → (i : ℕ) → i < cond b (suc (number f l)) (number f l) → ((j : ℕ) → j < number f l → T (f (get_or l j n))) → T (f (get_or (a ∷ l) i n))
    go true q zero k ih = true_T _ q
    go true q (suc i) k ih = ih i (omega arith)
    go false q i k ih = lowest i k (ih i k) (ih 0 (omega arith))
      where
        some_left : (m : List _) → 0 < number f m → 0 < length m
        some_left [] p = p
        some_left (c ∷ m) p = omega arith

        lowest : (j : ℕ) → j < number f l → T (f (get_or l j n)) → T (f (get_or l 0 n)) → T (f (get_or (a ∷ l) j n))
        lowest j p t u = absurd (subst T q (down 0 1 (omega arith) (omega (arith, some_left l (omega arith))) u))
