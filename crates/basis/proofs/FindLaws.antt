-- The first entry of a list that passes a test (`find`, specs/Test.antt). Assumes nothing.
--     find_none, none_find, find_fewer, find_same     nothing found: nothing passes; fewer pass; two tests that agree on the list
--     find_none_left, find_found, find_more           where a loop has come to index i: no entry is left; entry i passes; it does not
--     found_each                                      of a mapped list: what is found, with its names
--     find_at, find_no                                of the numbers below n: the least that passes; none does
--     find_firsts, least_pair, no_pair_lem                of pairs: by a test of the first part; the least that passes; none does
--     else_none, none_else, mapped_none, none_mapped  one search after another; what is found, with its names
--     else_cases, mapped_some, same_some              the same, where something is found
--     Sorted R l, sorted_by, sorted_from, sorted_across     each entry is R to those behind it; by places; numbers; pairs, the first parts
--                                                     deciding (`Then`)
--     find_least                                      of a sorted list, `find` gives the least entry that passes
--     FirstIn, find_first                             of any list, an entry before which none passes
use mathlib.Core.Path.{◌≡◌, refl, sym, ap, ◌∙◌, subst}
use mathlib.Core.Bool.{Bool, true, false}
use mathlib.Core.Logic.{◌⊎◌, inl, inr}
use mathlib.Core.List.Memᴰ
use mathlib.Core.List.{List, [], ◌∷◌, ◌++◌, Memᴰ}
use mathlib.Core.Option.{Option, none, some, none-ne-some}
use Prim.Native.Nat.{ℕ, zero, suc, ◌+◌, ◌≤◌, ◌<◌}
use native.Mathlib.Omega.{arith}
use native.Mathlib.Numerals.{add-one}
use native.Mathlib.Nat.{eq-or-lt_of_le}
use lib.Dec.{T}
use lib.ListN.{length, get_or, drop, drop_of_length-le}
use lib.Seq.{drop-cons}
use Rattle.basis.specs.Test.{keep, find, ◌else◌, mapped, each, across, from}
use Rattle.basis.proofs.BoolLaws.{true_T, false_T}
use Rattle.basis.proofs.ListLaws.{mem_get_or, each_elim, across_left, from_elim}

never : {A : Type 0} {a : A} → some a ≡ none → ⊥
never {A} {a} e = none-ne-some a (sym e)

module _ {A : Type 0} where
  keep_none : (c : Bool) (a : A) (r : Option A) → keep c a r ≡ none → (T c → ⊥) × (r ≡ none)
  unfolding keep
  keep_none true a r e = absurd (never e)
  keep_none false a r e = ((λ t. t), e)

  none_keep : (c : Bool) (a : A) (r : Option A) → (T c → ⊥) → r ≡ none → keep c a r ≡ none
  unfolding keep
  none_keep true a r h e = absurd (h tt)
  none_keep false a r h e = e

  -- nothing found: nothing passes
  find_none_of : (f : A → Bool) (a : A) (l : List A) → find f l ≡ none → Memᴰ a l → T (f a) → ⊥
  unfolding find
  find_none_of f a l h (Memᴰ.head {x = b} {xs = k} e) t = (keep_none (f b) b (find f k) h).0 (subst (λ (c : A). T (f c)) e t)
  find_none_of f a l h (Memᴰ.tail {x = b} {xs = k} m) t = find_none_of f a k (keep_none (f b) b (find f k) h).1 m t

  pub find_none : (f : A → Bool) (l : List A) → find f l ≡ none → (a : A) → Memᴰ a l → T (f a) → ⊥
  find_none f l h a m t = find_none_of f a l h m t

  pub none_find : (f : A → Bool) (l : List A) → ((a : A) → Memᴰ a l → T (f a) → ⊥) → find f l ≡ none
  unfolding find
  none_find f [] h = refl
  none_find f (a ∷ l) h = none_keep (f a) a (find f l) (h a (Memᴰ.head refl)) (none_find f l (λ c m. h c (Memᴰ.tail m)))

  -- fewer pass
  pub find_fewer : (f g : A → Bool) (l : List A) → ((a : A) → T (g a) → T (f a)) → find f l ≡ none → find g l ≡ none
  find_fewer f g l h e = none_find g l (λ a m t. find_none f l e a m (h a t))

  pub else_none : (a b : Option A) → (a else b) ≡ none → (a ≡ none) × (b ≡ none)
  unfolding ◌else◌
  else_none none b e = (refl, e)
  else_none (some a) b e = absurd (never e)

  pub none_else : (a b : Option A) → a ≡ none → b ≡ none → (a else b) ≡ none
  unfolding ◌else◌
  none_else none b p q = q
  none_else (some a) b p q = absurd (never p)

  -- what one search after another finds, one of them found
  pub else_cases : (a b : Option A) {x : A} → (a else b) ≡ some x → (a ≡ some x) ⊎ ((a ≡ none) × (b ≡ some x))
  unfolding ◌else◌
  else_cases none b h = inr (refl, h)
  else_cases (some a) b h = inl h

  pub same_some : {a b : A} → some a ≡ some b → a ≡ b
  same_some e = cc

module _ {A B : Type 0} where
  pub mapped_some : (g : A → B) (o : Option A) {x : B} → mapped g o ≡ some x → (a : A) × (o ≡ some a) × (g a ≡ x)
  unfolding mapped
  mapped_some g none h = absurd (never (sym h))
  mapped_some g (some a) h = (a, refl, same_some h)

  pub mapped_none : (f : A → B) (o : Option A) → mapped f o ≡ none → o ≡ none
  unfolding mapped
  mapped_none f none e = refl
  mapped_none f (some a) e = absurd (never e)

  pub none_mapped : (f : A → B) (o : Option A) → o ≡ none → mapped f o ≡ none
  unfolding mapped
  none_mapped f none e = refl
  none_mapped f (some a) e = absurd (never e)

module _ {A : Type 0} (f g : A → Bool) where
  pub find_same : (l : List A) → ((a : A) → Memᴰ a l → f a ≡ g a) → find f l ≡ find g l
  unfolding find
  find_same [] h = refl
  find_same (a ∷ l) h = rw (h a (Memᴰ.head refl), find_same l (λ b m. h b (Memᴰ.tail m)))

-- ---- where a loop has come to index i

module _ {A : Type 0} (p : A → Bool) (l : List A) where
  find_step : (i : ℕ) (d : A) → i < length l → find p (drop i l) ≡ keep (p (get_or l i d)) (get_or l i d) (find p (drop (i + 1) l))
  unfolding find
  find_step i d h = rw (add-one, drop-cons l i d)

  pub find_none_left : (i : ℕ) → find p l ≡ find p (drop i l) → length l ≤ i → find p l ≡ none
  unfolding find
  find_none_left i e h = e ∙ rw (drop_of_length-le l {i = i} h)

  pub find_found : (i : ℕ) (d : A) → find p l ≡ find p (drop i l) → i < length l → p (get_or l i d) ≡ true → find p l ≡ some (get_or l i d)
  unfolding keep
  find_found i d e h y = e ∙ find_step i d h ∙ ap (λ (b : Bool). keep b (get_or l i d) (find p (drop (i + 1) l))) y

  pub find_more : (i : ℕ) (d : A) → find p l ≡ find p (drop i l) → i < length l → p (get_or l i d) ≡ false → find p l ≡ find p (drop (i + 1) l)
  unfolding keep
  find_more i d e h y = e ∙ find_step i d h ∙ ap (λ (b : Bool). keep b (get_or l i d) (find p (drop (i + 1) l))) y

-- ---- numbers

-- the least that passes
pub least_from : (f : ℕ → Bool) (n s v : ℕ) → s ≤ v → v < s + n → f v ≡ true → ((d : ℕ) → d < v → f d ≡ false) → find f (from s n) ≡ some v
unfolding find from keep
least_from f zero s v p q y h = absurd (omega arith)
least_from f (suc n) s v p q y h = go (eq-or-lt_of_le p) (least_from f n (suc s) v)
  where
    go : (s ≡ v) ⊎ (s < v) → (suc s ≤ v → v < suc s + n → f v ≡ true → ((d : ℕ) → d < v → f d ≡ false) → find f (from (suc s) n) ≡ some v)
        → keep (f s) s (find f (from (suc s) n)) ≡ some v
    go (inl k) ih = ap (λ (b : Bool). keep b s (find f (from (suc s) n))) (ap f k ∙ y) ∙ ap (λ (j : ℕ). some j) k
    go (inr k) ih = ap (λ (b : Bool). keep b s (find f (from (suc s) n))) (h s k) ∙ ih k (omega arith) y h

pub find_at : (f : ℕ → Bool) (n v : ℕ) → v < n → f v ≡ true → ((d : ℕ) → d < v → f d ≡ false) → find f (from 0 n) ≡ some v
find_at f n v h y k = least_from f n 0 v (omega arith) (omega arith) y k

pub find_no : (f : ℕ → Bool) (n : ℕ) → ((d : ℕ) → d < n → f d ≡ false) → find f (from 0 n) ≡ none
find_no f n h = none_find f (from 0 n) (λ d m. false_T (f d) (h d (omega (arith, from_elim n 0 d m))))

-- ---- pairs, the first part changing slowest

module _ {A : Type 0} (f : A → Bool) where
  find_append : (l m : List A) → find f (l ++ m) ≡ (find f l else find f m)
  unfolding find ◌else◌ keep
  find_append [] m = refl
  find_append (a ∷ l) m = go (f a) (find_append l m)
    where
      go : (b : Bool) → find f (l ++ m) ≡ (find f l else find f m) → keep b a (find f (l ++ m)) ≡ (keep b a (find f l) else find f m)
      go true e = refl
      go false e = e

module _ {A B : Type 0} (f : B → Bool) (g : A → B) where
  find_each : (m : List A) → find f (each g m) ≡ mapped g (find (λ (a : A). f (g a)) m)
  unfolding find each mapped keep
  find_each [] = refl
  find_each (a ∷ m) = go (f (g a)) (find_each m)
    where
      go : (y : Bool) → find f (each g m) ≡ mapped g (find (λ (c : A). f (g c)) m) → keep y (g a) (find f (each g m)) ≡ mapped g (keep y a (find (λ (c : A). f (g c)) m))
      go true e = refl
      go false e = e

mapped_twice : {A B C : Type 0} (h : B → C) (g : A → B) (o : Option A) → mapped h (mapped g o) ≡ mapped (λ (a : A). h (g a)) o
unfolding mapped
mapped_twice h g none = refl
mapped_twice h g (some a) = refl

pub found_each : {A B C : Type 0} (f : B → Bool) (h : B → C) (g : A → B) (l : List A) → mapped h (find f (each g l)) ≡ mapped (λ (a : A). h (g a)) (find (λ (a : A). f (g a)) l)
found_each f h g l = ap (mapped h) (find_each f g l) ∙ mapped_twice h g (find (λ a. f (g a)) l)

module _ {A B : Type 0} (f : A × B → Bool) where
  find_across : (a : A) (l : List A) (m : List B)
      → find f (across (a ∷ l) m) ≡ (mapped {B = A × B} (λ (b : B). (a, b)) (find (λ (b : B). f (a, b)) m) else find f (across l m))
  unfolding across
  find_across a l m =
      find_append f (each (λ (b : B). (a, b)) m) (across l m) ∙ ap (λ (o : Option (A × B)). o else find f (across l m)) (find_each f (λ (b : B). (a, b)) m)

  module _ (l : List A) (m : List B) (i : ℕ) (d : A) (e : find f (across l m) ≡ find f (across (drop i l) m)) where
    turn : i < length l
        → find f (across l m)
        ≡ (mapped {B = A × B} (λ (b : B). (get_or l i d, b)) (find (λ (b : B). f (get_or l i d, b)) m) else find f (across (drop (i + 1) l) m))
    turn h =
        e ∙ ap (λ (k : List A). find f (across k m)) (drop-cons l i d h) ∙ find_across (get_or l i d) (drop (suc i) l) m
        ∙ rw (add-one)

    pub across_found : i < length l → (b : B) → find (λ (c : B). f (get_or l i d, c)) m ≡ some b → find f (across l m) ≡ some (get_or l i d, b)
    unfolding mapped ◌else◌
    across_found h b y = turn h ∙ rw y

    pub across_more : i < length l → find (λ (c : B). f (get_or l i d, c)) m ≡ none → find f (across l m) ≡ find f (across (drop (i + 1) l) m)
    unfolding mapped ◌else◌
    across_more h y = turn h ∙ rw y

    pub across_none : length l ≤ i → find f (across l m) ≡ none
    unfolding across find
    across_none h = e ∙ rw (drop_of_length-le l {i = i} h)

-- the least pair that passes: none with a lower first part, none with the same and a lower second
module _ (f : ℕ × ℕ → Bool) (n w v : ℕ) (y : f (w, v) ≡ true) (first : (d b : ℕ) → d < w → f (d, b) ≡ false) (second : (b : ℕ) → b < v → f (w, b) ≡ false) where
  least_across : v < n → (k s : ℕ) → s ≤ w → w < s + k → find f (across (from s k) (from 0 n)) ≡ some (w, v)
  unfolding from mapped ◌else◌
  least_across h zero s p q = absurd (omega arith)
  least_across h (suc k) s p q = find_across f s (from (suc s) k) (from 0 n) ∙ go (eq-or-lt_of_le p) (least_across h k (suc s))
    where
      go : (s ≡ w) ⊎ (s < w) → (suc s ≤ w → w < suc s + k → find f (across (from (suc s) k) (from 0 n)) ≡ some (w, v))
          → (mapped {B = ℕ × ℕ} (λ (b : ℕ). (s, b)) (find (λ (b : ℕ). f (s, b)) (from 0 n)) else find f (across (from (suc s) k) (from 0 n))) ≡ some (w, v)
      go (inl e) ih =
          ap (λ (i : ℕ). mapped {B = ℕ × ℕ} (λ (b : ℕ). (i, b)) (find (λ (b : ℕ). f (i, b)) (from 0 n)) else find f (across (from (suc s) k) (from 0 n))) e
          ∙ rw (find_at (λ (b : ℕ). f (w, b)) n v h y second)
      go (inr l) ih = rw (find_no (λ (b : ℕ). f (s, b)) n (λ b q. first s b l)) (ih l (omega arith))

  pub least_pair : w < n → v < n → find f (across (from 0 n) (from 0 n)) ≡ some (w, v)
  least_pair p q = least_across q n 0 (omega arith) (omega arith)

module _ (f : ℕ × ℕ → Bool) (n : ℕ) (no : (d b : ℕ) → f (d, b) ≡ false) where
  none_across : (l : List ℕ) → find f (across l (from 0 n)) ≡ none
  unfolding across find mapped ◌else◌
  none_across [] = refl
  none_across (a ∷ l) = find_across f a l (from 0 n) ∙ rw (find_no (λ (b : ℕ). f (a, b)) n (λ b q. no a b)) (none_across l)

  pub no_pair_lem : find f (across (from 0 n) (from 0 n)) ≡ none
  no_pair_lem = none_across (from 0 n)

-- a search through pairs whose first part decides whether there is a second, and which
module _ {A B C : Type 0} (g : ℕ → A) (f : A × B → Bool) (h : A × B → C) (bs : List B) (good : ℕ → Bool) (pick : ℕ → B) where
  abbrev Yes : ℕ → Type 0
  Yes j = good j ≡ true → find (λ (b : B). f (g j, b)) bs ≡ some (pick j)

  abbrev No : ℕ → Type 0
  No j = good j ≡ false → find (λ (b : B). f (g j, b)) bs ≡ none

  pub find_firsts : (l : List ℕ) → ((j : ℕ) → Memᴰ j l → Yes j) → ((j : ℕ) → Memᴰ j l → No j)
      → mapped h (find f (across (each g l) bs)) ≡ mapped (λ (j : ℕ). h (g j, pick j)) (find good l)
  unfolding find mapped across keep each
  find_firsts [] yes-at no-at = refl
  find_firsts (j ∷ l) yes-at no-at =
      go (good j) refl (yes-at j (Memᴰ.head refl)) (no-at j (Memᴰ.head refl)) (find_firsts l (λ i k. yes-at i (Memᴰ.tail k)) (λ i k. no-at i (Memᴰ.tail k)))
    where
      go : (b : Bool) → good j ≡ b → Yes j → No j → mapped h (find f (across (each g l) bs)) ≡ mapped (λ (i : ℕ). h (g i, pick i)) (find good l)
          → mapped h (find f (across (g j ∷ each g l) bs)) ≡ mapped (λ (i : ℕ). h (g i, pick i)) (keep (good j) j (find good l))
      go true e y n ih =
          ap (mapped h) (across_found f (g j ∷ each g l) bs 0 (g j) refl (omega arith) (pick j) (y e))
          ∙ sym (ap (λ (b : Bool). mapped (λ (i : ℕ). h (g i, pick i)) (keep b j (find good l))) e)
      go false e y n ih =
          ap (mapped h) (across_more f (g j ∷ each g l) bs 0 (g j) refl (omega arith) (n e)) ∙ ih
          ∙ sym (ap (λ (b : Bool). mapped (λ (i : ℕ). h (g i, pick i)) (keep b j (find good l))) e)

-- ---- sorted lists

abbrev pub Sorted : {A : Type 0} → (A → A → Type 0) → List A → Type 0
Sorted R [] = Unit {0}
Sorted {A} R (a ∷ l) = ((c : A) → Memᴰ c l → R a c) × Sorted R l

module _ {A : Type 0} (R : A → A → Type 0) where
  sorted_append : (l k : List A) → Sorted R l → Sorted R k → ((a c : A) → Memᴰ a l → Memᴰ c k → R a c) → Sorted R (l ++ k)
  sorted_append [] k p q h = q
  sorted_append (a ∷ l) k p q h = (
    (λ c m. behind c (Memᴰ.append_cases l m)),
    sorted_append l k p.1 q (λ b c m n. h b c (Memᴰ.tail m) n),
  )
    where
      behind : (c : A) → Memᴰ c l ⊎ Memᴰ c k → R a c
      behind c (inl m) = p.0 c m
      behind c (inr m) = h a c (Memᴰ.head refl) m

  pub find_least : (f : A → Bool) (l : List A) (a : A) → Sorted R l → find f l ≡ some a → T (f a) × ((c : A) → Memᴰ c l → T (f c) → (c ≡ a) ⊎ R a c)
  unfolding find keep
  find_least f [] a s e = let z : ◌≡◌ {A = ℕ} 0 1 = cc in absurd (omega arith)
  find_least f (b ∷ l) a s e = on (f b) (λ t. t) (λ t. t) e (find_least f l a s.1)
    where
      on : (x : Bool) → (T x → T (f b)) → (T (f b) → T x) → keep x b (find f l) ≡ some a
          → (find f l ≡ some a → T (f a) × ((c : A) → Memᴰ c l → T (f c) → (c ≡ a) ⊎ R a c))
          → T (f a) × ((c : A) → Memᴰ c (b ∷ l) → T (f c) → (c ≡ a) ⊎ R a c)
      on true y z q ih =
          let same : b ≡ a = cc in
          (subst (λ (d : A). T (f d)) same (y tt), λ c m t. subst (λ (d : A). (c ≡ d) ⊎ R d c) same (pick c (Memᴰ.cases_cons m)))
        where
          pick : (c : A) → (c ≡ b) ⊎ Memᴰ c l → (c ≡ b) ⊎ R b c
          pick c (inl p) = inl p
          pick c (inr m) = inr (s.0 c m)
      on false y z q ih = let w = ih q in (w.0, λ c m t. past c t (Memᴰ.cases_cons m) (w.1 c))
        where
          past : (c : A) → T (f c) → (c ≡ b) ⊎ Memᴰ c l → (Memᴰ c l → T (f c) → (c ≡ a) ⊎ R a c) → (c ≡ a) ⊎ R a c
          past c t (inl p) g = absurd (z (subst (λ (d : A). T (f d)) p t))
          past c t (inr m) g = g m t

pub sorted_by : {A : Type 0} (R : A → A → Type 0) (d : A) (l : List A) → ((i j : ℕ) → i < j → j < length l → R (get_or l i d) (get_or l j d)) → Sorted R l
sorted_by R d [] h = tt
sorted_by R d (a ∷ l) h = (
  (λ c m. let w = mem_get_or d m in let b = w.1 in subst (R a) w.2 (h 0 (suc w.0) (omega arith) (omega arith))),
  sorted_by R d l (λ i j p q. h (suc i) (suc j) (omega arith) (omega arith)),
)

pub sorted_from : (n s : ℕ) → Sorted (λ a b. a < b) (from s n)
unfolding from
sorted_from zero s = tt
sorted_from (suc n) s = ((λ c m. omega (arith, from_elim n (suc s) c m)), sorted_from n (suc s))

-- the first parts decide, and where they are equal the second
abbrev pub Then : {A B : Type 0} → (A → A → Type 0) → (B → B → Type 0) → A × B → A × B → Type 0
Then R S p q = R p.0 q.0 ⊎ ((q.0 ≡ p.0) × S p.1 q.1)

module _ {A B : Type 0} (R : A → A → Type 0) (S : B → B → Type 0) where
  row_elim : (a : A) (m : List B) (p : A × B) → Memᴰ p (each (λ (b : B). (a, b)) m) → (p.0 ≡ a) × Memᴰ p.1 m
  row_elim a m p k =
      let w = each_elim (λ (b : B). (a, b)) m p k in
      (sym (ap (λ (t : A × B). t.0) w.1.1), subst (λ (c : B). Memᴰ c m) (ap (λ (t : A × B). t.1) w.1.1) w.1.0)

  sorted_row : (a : A) (m : List B) → Sorted S m → Sorted (Then R S) (each (λ (b : B). (a, b)) m)
  unfolding each
  sorted_row a [] s = tt
  sorted_row a (b ∷ m) s = ((λ p k. let w = row_elim a m p k in inr (w.0, s.0 p.1 w.1)), sorted_row a m s.1)

  pub sorted_across : (l : List A) (m : List B) → Sorted R l → Sorted S m → Sorted (Then R S) (across l m)
  unfolding across
  sorted_across [] m p q = tt
  sorted_across (a ∷ l) m p q =
      sorted_append (Then R S) (each (λ (b : B). (a, b)) m) (across l m) (sorted_row a m q) (sorted_across l m p.1 q)
      (λ u v i j. inl (subst (λ (c : A). R c v.0) (sym (row_elim a m u i).0) (p.0 v.0 (across_left l m v j))))

-- a is entry number i, it passes, and none before it does
pub record FirstIn {A : Type 0} (f : A → Bool) (l : List A) (d a : A) : Type 0 where
  pub number : ℕ
  pub there : number < length l
  pub is : get_or l number d ≡ a
  pub passes : T (f a)
  pub none_before : (j : ℕ) → j < number → T (f (get_or l j d)) → ⊥

module _ {A : Type 0} (d : A) (f : A → Bool) where
  pub find_first : (l : List A) (a : A) → find f l ≡ some a → FirstIn f l d a
  unfolding find keep
  find_first [] a e = let z : ◌≡◌ {A = ℕ} 0 1 = cc in absurd (omega arith)
  find_first (b ∷ l) a e = on (f b) refl e (find_first l a)
    where
      on : (x : Bool) → f b ≡ x → keep x b (find f l) ≡ some a → (find f l ≡ some a → FirstIn f l d a) → FirstIn f (b ∷ l) d a
      on true q e ih =
          let same : b ≡ a = cc in
          record { number = 0; there = omega arith; is = same; passes = subst (λ (c : A). T (f c)) same (true_T _ q); none_before = λ j h t. absurd (omega arith) }
      on false q e ih = let w = ih e in
          record { number = suc w.number; there = let h = w.there in omega arith; is = w.is; passes = w.passes; none_before = before w.none_before }
        where
          before : ((j : ℕ) → j < (ih e).number → T (f (get_or l j d)) → ⊥) → (j : ℕ) → j < suc (ih e).number → T (f (get_or (b ∷ l) j d)) → ⊥
          before g zero h t = false_T _ q t
          before g (suc j) h t = g j (omega arith) t
