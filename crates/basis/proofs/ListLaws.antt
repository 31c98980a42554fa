-- Laws of lists that the kit lacks. Assumes nothing.
--     part_short, part_none         a part that is cut off by the list's end
--     part_front                    a part of a list's front
--     take_capped                   a front that is not longer than the list
--     front_at, front_past, front_length     a mapped front of a list
--     from_length, from_at, from_mem, from_elim, from_next, from_more     the numbers from a start on; one more
--     up_more                       what holds below a number, and of it
--     last_at, snoc_split, each_snoc, two_snoc     a list with one entry more
--     mem_get_or, get_or_mem            an entry of a list and its place
--     each_elim, each_mem, each_id  an entry of a mapped list; mapped by the identity
--     each_length, each_append, each_more     its length; of two lists; with one entry more
--     entry_split                   a list as what stands before an entry, the entry, and what stands behind it
--     each_at, each_past, zeros_at  an entry of mapped numbers, by its place; of a row of zeros
--     across_length, across_left, across_right, across_mem     pairs of two lists' entries: how many; a pair
use mathlib.Core.Path.{◌≡◌, refl, sym, ap, ap₂, ◌∙◌, subst}
use mathlib.Core.Logic.{◌⊎◌, inl, inr, ⊎_elim}
use mathlib.Core.Bool.{Bool, true, false}
use mathlib.Core.List.Memᴰ
use mathlib.Core.List.{List, [], ◌∷◌, ◌++◌, map, Memᴰ}
use Prim.Native.Nat.{ℕ, zero, suc, ◌+◌, ◌-◌, ◌*◌, ◌≤◌, ◌<◌, min}
use native.Mathlib.Omega.{arith}
use native.Mathlib.Numerals.{add-one}
use borrow.Author.Tests.{leb-true, leb-false}
use lib.Dec.{leb}
use lib.ListN.{length, get_or, take, drop, replicate, length-drop, length-take, length-map, drop_of_length-le, length-append, get_or-append, get_or-eq_default}
use lib.Seq.{take_all, take-nil, take-take, get_or-take, get_or-append_seam}
use native.Mathlib.Nat.{eq-or-lt_of_le, zero-mul, suc-mul, add_comm}
use Rattle.basis.specs.Test.{each, across, from}

pub part_short : (s : List ℕ) (a n : ℕ) → length s - a ≤ n → take (length s - a) (drop a s) ≡ take n (drop a s)
part_short s a n h =
    take_all (length s - a) (drop a s) (simp length-drop (omega arith)) ∙ sym (take_all n (drop a s) (simp length-drop (omega arith)))

pub part_none : (s : List ℕ) (a n : ℕ) → length s ≤ a → ◌≡◌ {A = List ℕ} [] (take n (drop a s))
part_none s a n h = rw (drop_of_length-le s {i = a} h, take-nil)

pub part_front : (w m n : ℕ) (s : List ℕ) → m + w ≤ n → take w (drop m (take n s)) ≡ take w (drop m s)
part_front w zero n s h = take-take w n s (omega arith)
part_front w (suc m) zero s h = absurd (omega arith)
part_front w (suc m) (suc n) [] h = refl
part_front w (suc m) (suc n) (a ∷ s) h = part_front w m n s (omega arith)

pub take_capped : (m n : ℕ) (l : List ℕ) → n ≡ min m (length l) → take n l ≡ take m l
take_capped m n l c = go (leb m (length l)) refl
  where
    go : (b : Bool) → leb m (length l) ≡ b → take n l ≡ take m l
    go true p = let h : m ≤ length l = leb-true _ _ p in let e : n ≡ m = omega arith in ap (λ (k : ℕ). take k l) e
    go false p = let h : length l < m = leb-false _ _ p in take_all n l (omega arith) ∙ sym (take_all m l (omega arith))

at_mapped {ℓ} : {A : Type ℓ} (f : ℕ → A) (l : List ℕ) (i : ℕ) (d : A) → i < length l → get_or (map f l) i d ≡ f (get_or l i 0)
at_mapped f [] i d h = absurd (omega arith)
at_mapped f (x ∷ xs) zero d h = refl
at_mapped f (x ∷ xs) (suc i) d h = at_mapped f xs i d (omega arith)

module _ {ℓ} {A : Type ℓ} (f : ℕ → A) (l : List ℕ) (n : ℕ) (d : A) where
  pub front_at : (i : ℕ) → i < n → n ≤ length l → get_or (map f (take n l)) i d ≡ f (get_or l i 0)
  front_at i h k = at_mapped f (take n l) i d (simp length-take (omega arith)) ∙ ap f (get_or-take n l i 0 h)

  pub front_past : (i : ℕ) → n ≤ i → get_or (map f (take n l)) i d ≡ d
  front_past i h = get_or-eq_default (map f (take n l)) d {n = i} (simp (length-map, length-take) (omega arith))

  pub front_length : n ≤ length l → length (map f (take n l)) ≡ n
  front_length h = simp (length-map, length-take) (omega arith)

pub from_length : (s n : ℕ) → length (from s n) ≡ n
unfolding from
from_length s zero = refl
from_length s (suc n) = ap suc (from_length (suc s) n)

pub from_at : (s n i d : ℕ) → i < n → get_or (from s n) i d ≡ s + i
unfolding from
from_at s zero i d h = absurd (omega arith)
from_at s (suc n) zero d h = omega arith
from_at s (suc n) (suc i) d h = let e = from_at (suc s) n i d (omega arith) in omega arith

pub from_mem : (n s e : ℕ) → s ≤ e → e < s + n → Memᴰ e (from s n)
unfolding from
from_mem zero s e p q = absurd (omega arith)
from_mem (suc n) s e p q = go (eq-or-lt_of_le p) (from_mem n (suc s) e)
  where
    go : (s ≡ e) ⊎ (s < e) → (suc s ≤ e → e < suc s + n → Memᴰ e (from (suc s) n)) → Memᴰ e (s ∷ from (suc s) n)
    go (inl h) ih = Memᴰ.head (sym h)
    go (inr h) ih = Memᴰ.tail (ih h (omega arith))

pub from_elim : (n s e : ℕ) → Memᴰ e (from s n) → (s ≤ e) × (e < s + n)
unfolding from
from_elim zero s e m = absurd (Memᴰ.not-nil m)
from_elim (suc n) s e m = on (Memᴰ.cases_cons m) (from_elim n (suc s) e)
  where
    on : (e ≡ s) ⊎ Memᴰ e (from (suc s) n) → (Memᴰ e (from (suc s) n) → (suc s ≤ e) × (e < suc s + n)) → (s ≤ e) × (e < s + suc n)
    on (inl q) ih = (omega arith, omega arith)
    on (inr k) ih = let w = ih k in (omega arith, omega arith)

pub from_next : (s k : ℕ) → from s (suc k) ≡ (from s k ++ ((s + k) ∷ []))
unfolding from
from_next s zero = let e : s ≡ s + 0 = omega arith in ap (λ (i : ℕ). i ∷ []) e
from_next s (suc k) =
    let e : suc s + k ≡ s + suc k = omega arith in
    ap (λ (l : List ℕ). s ∷ l) (from_next (suc s) k ∙ ap (λ (i : ℕ). from (suc s) k ++ (i ∷ [])) e)

pub from_more : (n : ℕ) → from 0 (n + 1) ≡ from 0 n ++ (n ∷ [])
from_more n = rw add-one (from_next 0 n ∙ ap (λ (k : ℕ). from 0 n ++ (k ∷ [])) (omega arith))

pub zeros_at : (n : ℕ) (l : List ℕ) (i : ℕ) → i < n → get_or (replicate n 0 ++ l) i 1 ≡ 0
zeros_at zero l i h = absurd (omega arith)
zeros_at (suc n) l zero h = refl
zeros_at (suc n) l (suc i) h = zeros_at n l i (omega arith)

-- what holds below i, and of i, holds below i + 1
pub up_more : {P : ℕ → Type 0} {i : ℕ} → ((j : ℕ) → j < i → P j) → P i → (j : ℕ) → j < i + 1 → P j
up_more {P} {i} f y j h = let b : j ≤ i = omega arith in go (eq-or-lt_of_le b)
  where
    go : (j ≡ i) ⊎ (j < i) → P j
    go (inl e) = subst P (sym e) y
    go (inr l) = f j l

-- ---- a list with one entry more

module _ {A : Type 0} (d : A) where
  pub last_at : (l : List A) (a : A) (i : ℕ) → i ≡ length l → get_or (l ++ (a ∷ [])) i d ≡ a
  last_at l a i e = ap (λ (j : ℕ). get_or (l ++ (a ∷ [])) j d) e ∙ get_or-append_seam l a [] d

  -- an index of the longer list is one of the shorter, or its length
  pub snoc_split : (l : List A) (a : A) (i : ℕ) → i < length (l ++ (a ∷ [])) → (i ≡ length l) ⊎ (i < length l)
  snoc_split l a i h = let e = length-append l (a ∷ []) in eq-or-lt_of_le (omega arith)

  -- what holds of each entry
  pub each_snoc : (P : A → Type 0) (l : List A) (a : A) → ((i : ℕ) → i < length l → P (get_or l i d)) → P a
      → (i : ℕ) → i < length (l ++ (a ∷ [])) → P (get_or (l ++ (a ∷ [])) i d)
  each_snoc P l a h k i j =
      ⊎_elim (λ e. subst P (sym (last_at l a i e)) k) (λ b. subst P (sym (get_or-append l (a ∷ []) d i b)) (h i b)) (snoc_split l a i j)

  -- what holds of each two
  pub two_snoc : (R : A → A → Type 0) (l : List A) (a : A) → ((i j : ℕ) → i < j → j < length l → R (get_or l i d) (get_or l j d))
      → ((i : ℕ) → i < length l → R (get_or l i d) a)
      → (i j : ℕ) → i < j → j < length (l ++ (a ∷ [])) → R (get_or (l ++ (a ∷ [])) i d) (get_or (l ++ (a ∷ [])) j d)
  two_snoc R l a h k i j b c =
      ⊎_elim
      (λ e. let f : i < length l = omega arith in
      subst (λ (y : A). R (get_or (l ++ (a ∷ [])) i d) y) (sym (last_at l a j e)) (subst (λ (x : A). R x a) (sym (get_or-append l (a ∷ []) d i f)) (k i f)))
      (λ e. let f : i < length l = omega arith in
      subst (λ (y : A). R (get_or (l ++ (a ∷ [])) i d) y) (sym (get_or-append l (a ∷ []) d j e)) (subst (λ (x : A). R x (get_or l j d)) (sym (get_or-append l (a ∷ []) d i f)) (h i j b e)))
      (snoc_split l a j c)

module _ {A : Type 0} where
  pub mem_get_or : (d : A) {a : A} {l : List A} → Memᴰ a l → (i : ℕ) × (i < length l) × (get_or l i d ≡ a)
  mem_get_or d (Memᴰ.head e) = (0, omega arith, sym e)
  mem_get_or d (Memᴰ.tail m) = let w = mem_get_or d m in (suc w.0, omega (arith, w.1), w.2)

  pub get_or_mem : (d : A) (l : List A) (i : ℕ) → i < length l → Memᴰ (get_or l i d) l
  get_or_mem d [] i h = absurd (omega arith)
  get_or_mem d (a ∷ l) zero h = Memᴰ.head refl
  get_or_mem d (a ∷ l) (suc i) h = Memᴰ.tail (get_or_mem d l i (omega arith))

-- ---- each

pub each_elim : {A B : Type 0} (g : A → B) (l : List A) (p : B) → Memᴰ p (each g l) → (j : A) × (Memᴰ j l × (g j ≡ p))
unfolding each
each_elim {A = A} {B = B} g [] p k = elim k [ ]
each_elim g (i ∷ l) p (Memᴰ.head e) = (i, (Memᴰ.head refl, sym e))
each_elim g (i ∷ l) p (Memᴰ.tail k) = let r = each_elim g l p k in (r.0, (Memᴰ.tail r.1.0, r.1.1))

pub each_mem : {A B : Type 0} (g : A → B) (l : List A) (j : A) → Memᴰ j l → Memᴰ (g j) (each g l)
unfolding each
each_mem {A = A} {B = B} g [] j k = elim k [ ]
each_mem g (i ∷ l) j (Memᴰ.head e) = Memᴰ.head (ap g e)
each_mem g (i ∷ l) j (Memᴰ.tail k) = Memᴰ.tail (each_mem g l j k)

pub each_id : {A : Type 0} (l : List A) → each (λ (a : A). a) l ≡ l
unfolding each
each_id [] = refl
each_id (a ∷ l) = ap (λ (m : List _). a ∷ m) (each_id l)

pub each_length : {A B : Type 0} (f : A → B) (l : List A) → length (each f l) ≡ length l
unfolding each
each_length f [] = refl
each_length f (a ∷ l) = ap suc (each_length f l)

pub each_append : {A B : Type 0} (f : A → B) (k l : List A) → each f (k ++ l) ≡ each f k ++ each f l
unfolding each
each_append f [] l = refl
each_append {A} {B} f (a ∷ k) l = ap (λ (m : List B). f a ∷ m) (each_append f k l)

pub each_more : {A B : Type 0} (f : A → B) (l : List A) (a : A) → each f (l ++ (a ∷ [])) ≡ each f l ++ (f a ∷ [])
unfolding each
each_more f l a = each_append f l (a ∷ [])

pub entry_split : {A : Type 0} (d : A) (l : List A) (i : ℕ) → i < length l → l ≡ take i l ++ (get_or l i d ∷ drop (suc i) l)
entry_split d [] i h = absurd (omega arith)
entry_split d (b ∷ l) zero h = refl
entry_split {A} d (b ∷ l) (suc i) h = ap (λ (m : List A). b ∷ m) (entry_split d l i (omega arith))

module _ {A : Type 0} where
  pub each_at : (f : ℕ → A) (n s i : ℕ) (d : A) → i < n → get_or (each f (from s n)) i d ≡ f (s + i)
  unfolding each from
  each_at f zero s i d h = absurd (omega arith)
  each_at f (suc n) s zero d h = let e : s ≡ s + 0 = omega arith in ap f e
  each_at f (suc n) s (suc i) d h = let e : suc s + i ≡ s + suc i = omega arith in each_at f n (suc s) i d (omega arith) ∙ ap f e

  pub each_past : (f : ℕ → A) (n s i : ℕ) (d : A) → n ≤ i → get_or (each f (from s n)) i d ≡ d
  unfolding each from
  each_past f zero s i d h = refl
  each_past f (suc n) s zero d h = absurd (omega arith)
  each_past f (suc n) s (suc i) d h = each_past f n (suc s) i d (omega arith)

-- ---- across

module _ {A B : Type 0} where
  pub across_length : (l : List A) (m : List B) → length (across l m) ≡ length l * length m
  unfolding across
  across_length [] m = sym (zero-mul (length m))
  across_length (a ∷ l) m =
      let r = across_length l m in
      length-append (each (λ (b : B). (a, b)) m) (across l m) ∙ ap₂ (λ (i j : ℕ). i + j) (each_length (λ (b : B). (a, b)) m) r ∙ add_comm (length m) (length l * length m) ∙ sym (suc-mul (length l) (length m))

  pub across_left : (l : List A) (m : List B) (p : A × B) → Memᴰ p (across l m) → Memᴰ p.0 l
  unfolding across
  across_left [] m p k = absurd (Memᴰ.not-nil k)
  across_left (a ∷ l) m p k = on (Memᴰ.append_cases (each (λ (b : B). (a, b)) m) k) (across_left l m p)
    where
      on : Memᴰ p (each (λ (b : B). (a, b)) m) ⊎ Memᴰ p (across l m) → (Memᴰ p (across l m) → Memᴰ p.0 l) → Memᴰ p.0 (a ∷ l)
      on (inl q) ih = let w = each_elim (λ (b : B). (a, b)) m p q in Memᴰ.head (sym (ap (λ (t : A × B). t.0) w.1.1))
      on (inr q) ih = Memᴰ.tail (ih q)

  pub across_right : (l : List A) (m : List B) (p : A × B) → Memᴰ p (across l m) → Memᴰ p.1 m
  unfolding across
  across_right [] m p k = absurd (Memᴰ.not-nil k)
  across_right (a ∷ l) m p k = on (Memᴰ.append_cases (each (λ (b : B). (a, b)) m) k) (across_right l m p)
    where
      on : Memᴰ p (each (λ (b : B). (a, b)) m) ⊎ Memᴰ p (across l m) → (Memᴰ p (across l m) → Memᴰ p.1 m) → Memᴰ p.1 m
      on (inl q) ih = let w = each_elim (λ (b : B). (a, b)) m p q in subst (λ (b : B). Memᴰ b m) (ap (λ (t : A × B). t.1) w.1.1) w.1.0
      on (inr q) ih = ih q

  across_mem_of : (a : A) (b : B) (l : List A) (m : List B) → Memᴰ a l → Memᴰ b m → Memᴰ {A = A × B} (a, b) (across l m)
  unfolding across
  across_mem_of a b l m (Memᴰ.head {x = c} {xs = k} e) q =
      Memᴰ.append_left (across k m) (subst (λ (d : A). Memᴰ {A = A × B} (a, b) (each (λ (y : B). (d, y)) m)) e (each_mem {B = A × B} (λ (y : B). (a, y)) m b q))
  across_mem_of a b l m (Memᴰ.tail {x = c} {xs = k} p) q = Memᴰ.append_right (each (λ (y : B). (c, y)) m) (across_mem_of a b k m p q)

  pub across_mem : (l : List A) (m : List B) (a : A) (b : B) → Memᴰ a l → Memᴰ b m → Memᴰ {A = A × B} (a, b) (across l m)
  across_mem l m a b p q = across_mem_of a b l m p q
