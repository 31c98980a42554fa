-- The entries of a list that pass a test (`those`, specs/Test.antt). Assumes nothing.
--     those_none, those_first, those_pass     of nothing; one that passes in front; one that does not
--     those_by                                either way
--     those_elim, those_intro                 what is among them
--     those_append                            of two lists
--     those_length, those_shorter             how many
--     those_sorted                            in their order
--     those_same                              two tests that agree on the list
--     sorted_same                             two lists in one strict order with the same entries are equal
use mathlib.Core.Path.{◌≡◌, refl, sym, ap, ap₂, ◌∙◌, subst}
use mathlib.Core.Logic.{◌⊎◌, inl, inr, ⊎_elim}
use mathlib.Core.Bool.{Bool, true, false, cond}
use mathlib.Core.List.Memᴰ
use mathlib.Core.List.{List, [], ◌∷◌, ◌++◌, Memᴰ}
use Prim.Native.Nat.{ℕ, ◌≤◌, ◌<◌}
use native.Mathlib.Omega.{arith}
use lib.Dec.{T}
use lib.ListN.{length}
use Rattle.basis.specs.Test.{those}
use Rattle.basis.proofs.BoolLaws.{by_bool, true_T, T_true}
use Rattle.basis.proofs.FindLaws.{Sorted}

module _ {A : Type 0} (f : A → Bool) where
  pub those_none : those f [] ≡ []
  unfolding those
  those_none = refl

  pub those_first : (a : A) (l : List A) → f a ≡ true → those f (a ∷ l) ≡ a ∷ those f l
  unfolding those
  those_first a l h = ap (λ (b : Bool). cond b (a ∷ those f l) (those f l)) h

  pub those_pass : (a : A) (l : List A) → f a ≡ false → those f (a ∷ l) ≡ those f l
  unfolding those
  those_pass a l h = ap (λ (b : Bool). cond b (a ∷ those f l) (those f l)) h

  pub those_by : (Q : List A → Type 0) (a : A) (l : List A) → (f a ≡ true → Q (a ∷ those f l)) → (f a ≡ false → Q (those f l)) → Q (those f (a ∷ l))
  those_by Q a l y n = by_bool (f a) (λ h. subst Q (sym (those_first a l h)) (y h)) (λ h. subst Q (sym (those_pass a l h)) (n h))

  pub those_elim : (l : List A) (a : A) → Memᴰ a (those f l) → Memᴰ a l × T (f a)
  unfolding those
  those_elim [] a m = absurd (Memᴰ.not-nil m)
  those_elim (c ∷ l) a m =
      those_by (λ k. Memᴰ a k → Memᴰ a (c ∷ l) × T (f a)) c l
      (λ h n. ⊎_elim (λ e. (Memᴰ.head e, true_T _ (ap f e ∙ h))) (λ i. let w = those_elim l a i in (Memᴰ.tail w.0, w.1)) (Memᴰ.cases_cons n))
      (λ h n. let w = those_elim l a n in (Memᴰ.tail w.0, w.1)) m

  those_intro_of : (a : A) (l : List A) → Memᴰ a l → T (f a) → Memᴰ a (those f l)
  those_intro_of a l (Memᴰ.head {x = c} {xs = k} q) t =
      subst (λ (j : List A). Memᴰ a j) (sym (those_first c k (ap f (sym q) ∙ T_true _ t))) (Memᴰ.head q)
  those_intro_of a l (Memᴰ.tail {x = c} {xs = k} m) t =
      let w = those_intro_of a k m t in those_by (λ j. Memᴰ a j) c k (λ h. Memᴰ.tail w) (λ h. w)

  pub those_intro : (l : List A) (a : A) → Memᴰ a l → T (f a) → Memᴰ a (those f l)
  those_intro l a m t = those_intro_of a l m t

  pub those_append : (k l : List A) → those f (k ++ l) ≡ those f k ++ those f l
  unfolding those
  those_append [] l = refl
  those_append (a ∷ k) l =
      let w = those_append k l in
      by_bool (f a) (λ h. those_first a (k ++ l) h ∙ ap (λ (j : List A). a ∷ j) w ∙ ap (λ (j : List A). j ++ those f l) (sym (those_first a k h)))
      (λ h. those_pass a (k ++ l) h ∙ w ∙ ap (λ (j : List A). j ++ those f l) (sym (those_pass a k h)))

  pub those_length : (l : List A) → length (those f l) ≤ length l
  unfolding those
  those_length [] = omega arith
  those_length (a ∷ l) = let w = those_length l in those_by (λ k. length k ≤ length (a ∷ l)) a l (λ h. omega arith) (λ h. omega arith)

  those_shorter_of : (a : A) (l : List A) → Memᴰ a l → (T (f a) → ⊥) → length (those f l) < length l
  those_shorter_of a l (Memᴰ.head {x = c} {xs = k} q) h =
      let w = those_length k in
      those_by (λ j. length j < length (c ∷ k)) c k (λ y. absurd (h (true_T _ (ap f q ∙ y)))) (λ y. omega arith)
  those_shorter_of a l (Memᴰ.tail {x = c} {xs = k} m) h =
      let w = those_shorter_of a k m h in those_by (λ j. length j < length (c ∷ k)) c k (λ y. omega arith) (λ y. omega arith)

  pub those_shorter : (l : List A) (a : A) → Memᴰ a l → (T (f a) → ⊥) → length (those f l) < length l
  those_shorter l a m h = those_shorter_of a l m h

  pub those_sorted : (R : A → A → Type 0) (l : List A) → Sorted R l → Sorted R (those f l)
  unfolding those
  those_sorted R [] s = tt
  those_sorted R (a ∷ l) s =
      those_by (Sorted R) a l (λ h. ((λ c m. s.0 c (those_elim l c m).0), those_sorted R l s.1)) (λ h. those_sorted R l s.1)

pub those_same : {A : Type 0} (f g : A → Bool) (l : List A) → ((a : A) → Memᴰ a l → f a ≡ g a) → those f l ≡ those g l
unfolding those
those_same f g [] h = refl
those_same {A} f g (a ∷ l) h =
    ap₂ (λ (b : Bool) (r : List A). cond b (a ∷ r) r) (h a (Memᴰ.head refl)) (those_same f g l (λ c m. h c (Memᴰ.tail m)))

-- each entry stands once, and where it has to
module _ {A : Type 0} (R : A → A → Type 0) (strict : (a b : A) → R a b → R b a → ⊥) where
  tail_in : (a : A) (k l : List A) → Sorted R (a ∷ k) → (c : A) → Memᴰ c k → Memᴰ c (a ∷ l) → Memᴰ c l
  tail_in a k l s c m n =
      ⊎_elim (λ e. let r = s.0 c m in absurd (strict a c r (subst (λ (d : A). R d a) (sym e) (subst (R a) e r))))
      (λ i. i) (Memᴰ.cases_cons n)

  pub sorted_same : (k l : List A) → Sorted R k → Sorted R l → ((c : A) → Memᴰ c k → Memᴰ c l) → ((c : A) → Memᴰ c l → Memᴰ c k) → k ≡ l
  sorted_same [] [] p q f g = refl
  sorted_same [] (b ∷ l) p q f g = absurd (Memᴰ.not-nil (g b (Memᴰ.head refl)))
  sorted_same (a ∷ k) [] p q f g = absurd (Memᴰ.not-nil (f a (Memᴰ.head refl)))
  sorted_same (a ∷ k) (b ∷ l) p q f g =
      let e = by (Memᴰ.cases_cons (f a (Memᴰ.head refl))) (Memᴰ.cases_cons (g b (Memᴰ.head refl))) in
      let p' : Sorted R (b ∷ k) = subst (λ (c : A). Sorted R (c ∷ k)) e p in
      ap₂ (λ (c : A) (j : List A). c ∷ j) e
      (sorted_same k l p.1 q.1 (λ c m. tail_in b k l p' c m (f c (Memᴰ.tail m)))
      (λ c m. tail_in b l k q c m (subst (λ (d : A). Memᴰ c (d ∷ k)) e (g c (Memᴰ.tail m)))))
    where
      by : (a ≡ b) ⊎ Memᴰ a l → (b ≡ a) ⊎ Memᴰ b k → a ≡ b
      by (inl e) d = e
      by (inr m) (inl e) = sym e
      by (inr m) (inr n) = absurd (strict a b (p.0 b n) (q.0 a m))
