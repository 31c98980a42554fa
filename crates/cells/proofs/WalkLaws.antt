-- The laws of specs/Walk.antt. Assumes nothing.
--     Stand                                     where a loop over the members of a set stands, which takes the lowest that is left
--     stand_start, stand_lowest, stand_next, stand_end     it begins; what it takes; a turn; nothing is left
--     up_to_more                                 a turn of a loop over numbers
--     picked_none, picked_in, picked_out        a loop that gathers the numbers that pass
--     mem_picked                                what it has gathered
--     over_picked                               the same by a loop over the members of a set that has all that pass
use mathlib.Core.Path.{◌≡◌, refl, sym, ap, ◌∙◌, subst}
use mathlib.Core.Bool.{Bool, true, false, cond}
use mathlib.Core.Logic.{⊎_elim}
use Prim.Native.Nat.{ℕ, zero, suc, ◌+◌, ◌-◌, ◌^◌, ◌≤◌, ◌<◌}
use native.Mathlib.Nat.{add-suc}
use native.Mathlib.Numerals.{add-one}
use native.Mathlib.Omega.{arith}
use native.Mathlib.Decide.{ℕ_discrete, dec_lt}
use borrow.Author.Tests.{lt-ltb, ltb-true}
use lib.Dec.{eqb, ltb}
use Rattle.basis.specs.Test.{◌and◌}
use Rattle.basis.proofs.BoolLaws.{and_holds, and_both, cond_and, by_bool, bool_ext, not_both_ways, not_both, eqb_self}
use Rattle.sets.specs.Mask.{slots, mem, Has, insert, remove, Lowest}
use Rattle.sets.proofs.MaskLaws.{mem_empty, mem_lt, mem_remove, remove_old, remove_cases, remove_lt, insert_cases, insert_old, insert_new, ext_all}
use Rattle.sets.specs.Members.{Taken}
use Rattle.cells.specs.Walk.{up_to, only_of, over, taking, picked}

module _ {A : Type 0} where
  pub up_to_more : (f : ℕ → A → A) (n : ℕ) (b : A) → up_to f (n + 1) b ≡ f n (up_to f n b)
  unfolding up_to
  up_to_more f n b = ap (λ (i : ℕ). up_to f i b) (add-one n)

  -- what has no member is passed over
  skip : (m : ℕ) (f : ℕ → A → A) (b : A) (i k : ℕ) → ((d : ℕ) → i ≤ d → d < i + k → mem m d ≡ false) → up_to (only_of m f) (i + k) b ≡ up_to (only_of m f) i b
  unfolding up_to
  skip m f b i zero h = let e : i + 0 ≡ i = omega arith in ap (λ (x : ℕ). up_to (only_of m f) x b) e
  skip m f b i (suc k) h =
      ap (λ (x : ℕ). up_to (only_of m f) x b) (add-suc i k) ∙ ap (λ (c : Bool). cond c (f (i + k) (up_to (only_of m f) (i + k) b)) (up_to (only_of m f) (i + k) b)) (h (i + k) (omega arith) (omega arith))
      ∙ skip m f b i k (λ d p q. h d p (omega arith))

  pub record Stand (m : ℕ) (f : ℕ → A → A) (b₀ : A) (left : ℕ) (b : A) : Type 0 where
    pub at : ℕ
    pub small : at ≤ slots
    pub width : left < 2 ^ slots
    pub done : b ≡ up_to (only_of m f) at b₀
    pub later : (d : ℕ) → Has left d → at ≤ d
    pub same : (d : ℕ) → at ≤ d → mem left d ≡ mem m d

  pub stand_start : (m : ℕ) (f : ℕ → A → A) (b : A) → m < 2 ^ slots → Stand m f b m b
  unfolding up_to
  stand_start m f b h = record { at = 0; small = omega arith; width = h; done = refl; later = λ d p. omega arith; same = λ d p. refl }

  module _ {m : ℕ} {f : ℕ → A → A} {b₀ : A} {left : ℕ} {b : A} (s : Stand m f b₀ left b) where
    pub stand_end : left ≡ 0 → b ≡ over m f b₀
    unfolding over
    stand_end e =
        let i = s.at in
        let l : i + (slots - i) ≡ slots = let h = s.small in omega arith in
        s.done
        ∙ sym (skip m f b₀ i (slots - i) (λ d p q. sym (s.same d p) ∙ ap (λ (x : ℕ). mem x d) e ∙ mem_empty d))
        ∙ ap (λ (x : ℕ). up_to (only_of m f) x b₀) l

    module _ (v : ℕ) (low : Lowest left v) (some : left ≡ 0 → ⊥) where
      pub stand_lowest : Has left v × (v < slots)
      stand_lowest = let h = low.member (omega (arith, some)) in (h, mem_lt slots left v s.width h)

      pub stand_less : remove left v < left
      stand_less = remove_lt left v stand_lowest.0

      pub stand_next : Stand m f b₀ (remove left v) (f v b)
      unfolding up_to
      stand_next =
          let h = stand_lowest.0 in
          let l = stand_lowest.1 in
          let i = s.at in
          let up : i ≤ v = s.later v h in
          let e : i + (v - i) ≡ v = omega arith in
          let same-b : b ≡ up_to (only_of m f) v b₀ =
          s.done ∙ sym (skip m f b₀ i (v - i) (λ d p q. sym (s.same d p) ∙ low.least d (omega arith))) ∙ ap (λ (x : ℕ). up_to (only_of m f) x b₀) e in
          let w = remove_lt left v h in
          let n = s.width in
          record {
            at = suc v;
            small = l;
            width = omega arith;
            done = ap (f v) same-b ∙ sym (ap (λ (c : Bool). cond c (f v (up_to (only_of m f) v b₀)) (up_to (only_of m f) v b₀)) (sym (s.same v up) ∙ h));
            later = after;
            same = beyond up;
          }
        where
          after : (d : ℕ) → Has (remove left v) d → suc v ≤ d
          after d p = go (ℕ_discrete d v) (dec_lt d v)
            where
              go : Dec (d ≡ v) → Dec (d < v) → suc v ≤ d
              go (yes e) g = absurd (not_both_ways (subst (λ (x : ℕ). Has (remove left v) x) e p) (gone e))
                where
                  gone : d ≡ v → mem (remove left v) v ≡ false
                  gone z = mem_remove left v v ∙ not_both (mem left v) (eqb v v) (λ h. eqb_self v)
              go (no e) (yes g) = absurd (not_both_ways (remove_old left v d p) (low.least d g))
              go (no e) (no g) = omega (arith, e, g)

          beyond : s.at ≤ v → (d : ℕ) → suc v ≤ d → mem (remove left v) d ≡ mem m d
          beyond up d p = bool_ext (mem (remove left v) d) (mem left d) (remove_old left v d) (λ q. ⊎_elim (λ c. absurd (omega (arith, c))) (λ c. c) (remove_cases left v d q)) ∙ s.same d (omega arith)

-- ---- the numbers that pass

pub picked_none : (f : ℕ → Bool) → 0 ≡ picked 0 f
unfolding picked up_to
picked_none f = refl

pub picked_more : (n : ℕ) (f : ℕ → Bool) → picked (n + 1) f ≡ taking f n (picked n f)
unfolding picked
picked_more n f = up_to_more (taking f) n 0

pub picked_in : (n : ℕ) (f : ℕ → Bool) → f n ≡ true → insert (picked n f) n ≡ picked (n + 1) f
picked_in n f h = sym (picked_more n f ∙ ap (λ (c : Bool). cond c (insert (picked n f) n) (picked n f)) h)

pub picked_out : (n : ℕ) (f : ℕ → Bool) → f n ≡ false → picked n f ≡ picked (n + 1) f
picked_out n f h = sym (picked_more n f ∙ ap (λ (c : Bool). cond c (insert (picked n f) n) (picked n f)) h)

-- one number more
module _ (n : ℕ) (f : ℕ → Bool) (old d : ℕ) (back : Has old d → (d < n) × (f d ≡ true)) (forth : d < n → f d ≡ true → Has old d) where
  is_in : f n ≡ true → taking f n old ≡ insert old n
  is_in c = ap (λ (b : Bool). cond b (insert old n) old) c

  is_out : f n ≡ false → taking f n old ≡ old
  is_out c = ap (λ (b : Bool). cond b (insert old n) old) c

  next_back : Has (taking f n old) d → (d < suc n) × (f d ≡ true)
  next_back =
      by_bool (f n)
      (λ c h. ⊎_elim (λ e. (omega arith, ap f e ∙ c)) (λ g. let k = back g in (omega (arith, k.0), k.1)) (insert_cases old n d (subst (λ (x : ℕ). Has x d) (is_in c) h)))
      (λ c h. let k = back (subst (λ (x : ℕ). Has x d) (is_out c) h) in (omega (arith, k.0), k.1))

  next_forth : d < suc n → f d ≡ true → Has (taking f n old) d
  next_forth l h = by_bool (f n) (λ c. subst (λ (x : ℕ). Has x d) (sym (is_in c)) (go (ℕ_discrete d n))) (λ c. subst (λ (x : ℕ). Has x d) (sym (is_out c)) (out c (ℕ_discrete d n)))
    where
      go : Dec (d ≡ n) → Has (insert old n) d
      go (yes e) = subst (λ (x : ℕ). Has (insert old n) x) (sym e) (insert_new old n)
      go (no e) = insert_old old n d (forth (omega (arith, e)) h)

      out : f n ≡ false → Dec (d ≡ n) → Has old d
      out c (yes e) = absurd (not_both_ways h (ap f e ∙ c))
      out c (no e) = forth (omega (arith, e)) h

picked_facts : (n : ℕ) (f : ℕ → Bool) (d : ℕ) → (Has (picked n f) d → (d < n) × (f d ≡ true)) × (d < n → f d ≡ true → Has (picked n f) d)
unfolding picked up_to
picked_facts zero f d = (λ h. absurd (not_both_ways h (mem_empty d)), λ l h. absurd (omega arith))
picked_facts (suc n) f d =
    let ih = picked_facts n f d in
    (next_back n f (up_to (taking f) n 0) d ih.0 ih.1, next_forth n f (up_to (taking f) n 0) d ih.0 ih.1)

pub mem_picked : (n : ℕ) (f : ℕ → Bool) (d : ℕ) → mem (picked n f) d ≡ (ltb d n and f d)
mem_picked n f d =
    bool_ext (mem (picked n f) d) (ltb d n and f d)
    (λ h. let k = (picked_facts n f d).0 h in and_holds (ltb d n) (f d) (lt-ltb d n k.0) ∙ k.1)
    (λ h. let k = and_both (ltb d n) (f d) h in (picked_facts n f d).1 (ltb-true d n k.0) k.1)

-- ---- the members of a set that pass

up_to_same : {A : Type 0} (f g : ℕ → A → A) → ((v : ℕ) (b : A) → f v b ≡ g v b) → (n : ℕ) (b : A) → up_to f n b ≡ up_to g n b
unfolding up_to
up_to_same f g h zero b = refl
up_to_same f g h (suc n) b = h n (up_to f n b) ∙ ap (g n) (up_to_same f g h n b)

-- a loop over the members that takes those that pass, of numbers below n all that pass are members: it takes all of those below n
pub over_picked : (n m : ℕ) (f : ℕ → Bool) → n ≤ slots → ((d : ℕ) → mem m d ≡ true → d < n) → ((d : ℕ) → d < n → f d ≡ true → mem m d ≡ true)
    → over m (taking f) 0 ≡ picked n f
unfolding over picked
over_picked n m f few inside whole =
    up_to_same (only_of m (taking f)) (taking (λ (v : ℕ). mem m v and f v)) (λ v b. cond_and (mem m v) (f v) (insert b v) b) slots 0
    ∙ ext_all (picked slots (λ (v : ℕ). mem m v and f v)) (picked n f)
    (λ d. mem_picked slots (λ (v : ℕ). mem m v and f v) d ∙ bool_ext (ltb d slots and (mem m d and f d)) (ltb d n and f d) (forth d) (back d) ∙ sym (mem_picked n f d))
  where
    forth : (d : ℕ) → (ltb d slots and (mem m d and f d)) ≡ true → (ltb d n and f d) ≡ true
    forth d h =
        let a = and_both (ltb d slots) (mem m d and f d) h in
        let b = and_both (mem m d) (f d) a.1 in
        and_holds (ltb d n) (f d) (lt-ltb d n (inside d b.0)) ∙ b.1

    back : (d : ℕ) → (ltb d n and f d) ≡ true → (ltb d slots and (mem m d and f d)) ≡ true
    back d h =
        let a = and_both (ltb d n) (f d) h in
        let l = ltb-true d n a.0 in
        and_holds (ltb d slots) _ (lt-ltb d slots (omega arith)) ∙ and_holds (mem m d) (f d) (whole d l a.1) ∙ a.1

-- a turn of a `for` over the members of a set
pub stand_taken : {A : Type 0} {m : ℕ} {f : ℕ → A → A} {b₀ : A} {left : ℕ} {b : A} → Stand m f b₀ left b → (v t : ℕ) → Taken left v t → Stand m f b₀ t (f v b)
stand_taken {m = m} {f = f} {b₀ = b₀} {b = b} s v t k = subst (λ (x : ℕ). Stand m f b₀ x (f v b)) (sym k.rest) (stand_next s v k.low k.some)
