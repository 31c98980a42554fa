-- The laws of specs/Closure.antt: the closure of rows of successors, pivot by pivot. Assumes nothing.
--     reach_trans                        a way after a way
--     grown_pivot grown_same             one pivot; rows that are the same
--     stage_none stage_next stage_all    what holds once every pivot is done but those that are left, two and two; with none left it is the closure
--     closed_square                      rows of n events stay rows of n events
--     closed_unique        there is one closure
use mathlib.Core.Path.{◌≡◌, refl, sym, ap, ap₂, ◌∙◌, subst}
use mathlib.Core.Bool.{Bool, false, ◌&&◌}
use mathlib.Core.Logic.{◌⊎◌, inl, inr, ⊎_elim}
use mathlib.Core.List.{List}
use Prim.Native.Nat.{ℕ, ◌+◌, ◌-◌, ◌%◌, ◌≤◌, ◌<◌}
use native.Mathlib.Decide.{ℕ_discrete, dec_lt}
use native.Mathlib.Omega.{arith}
use lib.ListN.{length, get_or, drop}
use lib.Seq.{get_or-drop, ext_get_or}
use Rattle.basis.proofs.BoolLaws.{bool_ext, not_both_ways, false_of, bar_cases, bar_left, bar_right, and_parts}
use Rattle.sets.specs.Mask.{slots, mem, Has, remove, Lowest}
use Rattle.closing.specs.Closure.{Reach, Square, Closed}
use Rattle.closing.specs.Closure.Reach.{step, more}
use Rattle.closing.specs.steps.Sweep.{succ_of, pivot, Swept, Pivots, Second}
use Rattle.sets.proofs.MaskLaws.{ext_all, mem_empty, mem_lt, lt_of_members, at_slot, remove_old, remove_cases, remove_le, remove_lt}
use Rattle.closing.proofs.SweepLaws.{mem_absorb}

-- ---- reachability

pub reach_trans : {n : ℕ} {rows : List ℕ} {e m d : ℕ} → Reach n rows e m → m < n → Reach n rows m d → Reach n rows e d
reach_trans (step h) l q = more h l q
reach_trans (more h k p) l q = more h k (reach_trans p l q)

-- ---- what holds of the rows f once every pivot but those of `left` is done: the rows grew, say nothing false, and lead through every such pivot

pub record Grown (n left : ℕ) (r₀ : List ℕ) (f : ℕ → ℕ) : Type 0 where
  pub keeps : (e d : ℕ) → e < n → Has (succ_of r₀ e) d → Has (f e) d
  pub sound : (e d : ℕ) → e < n → Has (f e) d → Reach n r₀ e d
  pub via : (p : ℕ) → p < n → mem left p ≡ false → (e d : ℕ) → e < n → Has (f e) p → Has (f p) d → Has (f e) d

-- through a number that is no pivot there is no way
grown_none : (n : ℕ) (r₀ : List ℕ) (left : ℕ) → Pivots n r₀ left → Grown n left r₀ (succ_of r₀)
grown_none n r₀ left q = record {
  keeps = λ e d l h. h;
  sound = λ e d l h. step h;
  via = λ p l o e d k a b. absurd (not_both_ways b (ap (λ (s : ℕ). mem s d) (q.idle p l o e k a) ∙ mem_empty d));
}

-- one pivot
module _ {n left : ℕ} {r₀ : List ℕ} {f : ℕ → ℕ} (k : ℕ) (kn : k < n) (G : Grown n left r₀ f) where
  -- the rows after it
  abbrev g : ℕ → ℕ
  g = pivot k f

  old : (e d : ℕ) → Has (f e) d → Has (g e) d
  old e d h = mem_absorb (f e) k (f k) d ∙ bar_left (mem (f e) d) (mem (f e) k && mem (f k) d) h

  new : (e d : ℕ) → Has (f e) k → Has (f k) d → Has (g e) d
  new e d a b = mem_absorb (f e) k (f k) d ∙ bar_right (mem (f e) d) (mem (f e) k && mem (f k) d) (ap₂ (λ (x y : Bool). x && y) a b)

  cases : (e d : ℕ) → Has (g e) d → Has (f e) d ⊎ (Has (f e) k × Has (f k) d)
  cases e d h =
      ⊎_elim (λ a. inl a) (λ b. inr (and_parts (mem (f e) k) (mem (f k) d) b))
      (bar_cases (mem (f e) d) (mem (f e) k && mem (f k) d) (sym (mem_absorb (f e) k (f k) d) ∙ h))

  -- through an earlier pivot p, and through k
  through_old : (p : ℕ) → p < n → mem left p ≡ false → (e d : ℕ) → e < n → Has (g e) p → Has (g p) d → Has (g e) d
  through_old p l o e d en a b = go (cases e p a) (cases p d b)
    where
      go : Has (f e) p ⊎ (Has (f e) k × Has (f k) p) → Has (f p) d ⊎ (Has (f p) k × Has (f k) d) → Has (g e) d
      go (inl x) (inl y) = old e d (G.via p l o e d en x y)
      go (inl x) (inr y) = new e d (G.via p l o e k en x y.0) y.1
      go (inr x) (inl y) = new e d x.0 (G.via p l o k d kn x.1 y)
      go (inr x) (inr y) = new e d x.0 y.1

  through_new : (e d : ℕ) → Has (g e) k → Has (g k) d → Has (g e) d
  through_new e d a b = new e d (⊎_elim (λ x. x) (λ x. x.0) (cases e k a)) (⊎_elim (λ y. y) (λ y. y.1) (cases k d b))

  through : (p : ℕ) → p < n → mem (remove left k) p ≡ false → (e d : ℕ) → e < n → Has (g e) p → Has (g p) d → Has (g e) d
  through p l o e d en a b = go (ℕ_discrete p k)
    where
      go : Dec (p ≡ k) → Has (g e) d
      go (yes q) = through_new e d (subst (λ (x : ℕ). Has (g e) x) q a) (subst (λ (x : ℕ). Has (g x) d) q b)
      go (no f) =
          through_old p l
          (false_of (mem left p) (λ t. ⊎_elim (λ q. f q) (λ r. not_both_ways r o) (remove_cases left k p t))) e d en a b

  pub grown_pivot : Grown n (remove left k) r₀ g
  grown_pivot = record {
    keeps = λ e d l h. old e d (G.keeps e d l h);
    sound = λ e d l h. ⊎_elim (λ a. G.sound e d l a) (λ b. reach_trans (G.sound e k l b.0) kn (G.sound k d kn b.1)) (cases e d h);
    via = through;
  }

-- rows that are the same below n
pub grown_same : {n left : ℕ} {r₀ : List ℕ} {f h : ℕ → ℕ} → ((e : ℕ) → e < n → h e ≡ f e) → Grown n left r₀ f → Grown n left r₀ h
grown_same q G = record {
  keeps = λ e d l t. ap (λ (s : ℕ). mem s d) (q e l) ∙ G.keeps e d l t;
  sound = λ e d l t. G.sound e d l (sym (ap (λ (s : ℕ). mem s d) (q e l)) ∙ t);
  via = λ p l o e d k a b. ap (λ (s : ℕ). mem s d) (q e k) ∙ G.via p l o e d k (sym (ap (λ (s : ℕ). mem s p) (q e k)) ∙ a) (sym (ap (λ (s : ℕ). mem s d) (q p l)) ∙ b);
}

-- ---- the same of the rows in their table

pub record Stage (n left : ℕ) (r₀ r : List ℕ) : Type 0 where
  pub size : length r ≡ length r₀
  pub below : (p : ℕ) → Has left p → p < n
  pub grown : Grown n left r₀ (succ_of r)
  pub rest : drop n r ≡ drop n r₀

pub stage_none : (n : ℕ) (r₀ : List ℕ) (left : ℕ) → Pivots n r₀ left → Stage n left r₀ r₀
stage_none n r₀ left q = record { size = refl; below = q.below; grown = grown_none n r₀ left q; rest = refl }

-- the two pivots of a turn, taken from those that are left
pub record Chosen (n left others k j : ℕ) : Type 0 where
  pub member : Has left k
  pub first : k < n
  pub other : j < n
  pub rest : others ≡ remove left k

pub chosen : {n left others k j : ℕ} {r₀ r : List ℕ} → n ≤ slots → Stage n left r₀ r → (left ≡ 0 → ⊥) → Lowest left k → others ≡ remove left (k % slots) → Second others k j → Chosen n left others k j
chosen {n} {left} {others} {k} {j} ns S some low is sec =
    let h : Has left k = low.member (omega (arith, some)) in
    let kn : k < n = S.below k h in
    let same : others ≡ remove left k = is ∙ at_slot (remove left) k (omega arith) in
    record { member = h; first = kn; other = go same kn (ℕ_discrete others 0); rest = same }
  where
    go : others ≡ remove left k → k < n → Dec (others ≡ 0) → j < n
    go same kn (yes z) = subst (λ (x : ℕ). x < n) (sym (sec.none z)) kn
    go same kn (no f) = S.below j (remove_old left k j (sym (ap (λ (s : ℕ). mem s j) same) ∙ sec.member (omega (arith, f))))

module _ {n left others k j left' : ℕ} (ns : n ≤ slots) (C : Chosen n left others k j) (is : left' ≡ remove others (j % slots)) where
  now_left : left' ≡ remove (remove left k) j
  now_left = let jn = C.other in is ∙ at_slot (remove others) j (omega arith) ∙ ap (λ (s : ℕ). remove s j) C.rest

  pub stage_less : left' < left
  stage_less =
      let a = remove_le (remove left k) j in
      let b = remove_lt left k C.member in
      omega (arith, now_left, a, b)

  pub stage_next : {r₀ r r' : List ℕ} → Stage n left r₀ r → Swept n k j r r' → Stage n left' r₀ r'
  stage_next {r₀} {r} {r'} S W = subst (λ (x : ℕ). Stage n x r₀ r') (sym now_left) record {
    size = W.size ∙ S.size;
    below = λ p h. S.below p (remove_old left k p (remove_old (remove left k) j p h));
    grown = grown_same W.each (grown_pivot j C.other (grown_pivot k C.first S.grown));
    rest = W.rest ∙ S.rest;
  }

-- ---- after the last pivot

module _ {n : ℕ} {r₀ r : List ℕ} (S : Stage n 0 r₀ r) where
  complete : {e d : ℕ} → Reach n r₀ e d → e < n → Has (succ_of r e) d
  complete {e} {d} (step h) l = S.grown.keeps e d l h
  complete {e} {d} (more {m = m} h k p) l = S.grown.via m k (mem_empty m) e d l (S.grown.keeps e m l h) (complete p k)

  pub stage_all : Closed n r₀ r
  stage_all = record { size = S.size; reach = λ e l d. (λ h. S.grown.sound e d l h, λ p. complete p l); rest = S.rest }

-- ---- rows of n events stay rows of n events

reach_lt : {n : ℕ} {r : List ℕ} {e d : ℕ} → Square n r → e < n → Reach n r e d → d < n
reach_lt {n} {r} {e} {d} q l (step h) = mem_lt n (get_or r e 0) d (q e l) h
reach_lt q l (more h k p) = reach_lt q k p

pub closed_square : {n : ℕ} {r r' : List ℕ} → Square n r → Closed n r r' → Square n r'
closed_square {n} {r} {r'} q c e l = lt_of_members n (get_or r' e 0) (λ d h. reach_lt q l ((c.reach e l d).0 h))

-- ---- two closures of the same rows are the same

module _ {n : ℕ} {r p q : List ℕ} (a : Closed n r p) (b : Closed n r q) where
  same_row : (e : ℕ) → Dec (e < n) → get_or p e 0 ≡ get_or q e 0
  same_row e (yes l) =
      ext_all (get_or p e 0) (get_or q e 0)
      (λ d. bool_ext (mem (get_or p e 0) d) (mem (get_or q e 0) d) (λ h. (b.reach e l d).1 ((a.reach e l d).0 h)) (λ h. (a.reach e l d).1 ((b.reach e l d).0 h)))
  same_row e (no f) =
      let at : n + (e - n) ≡ e = omega arith in
      ap (λ (i : ℕ). get_or p i 0) (sym at) ∙ sym (get_or-drop n p (e - n) 0) ∙ ap (λ (l : List ℕ). get_or l (e - n) 0) (a.rest ∙ sym b.rest)
      ∙ get_or-drop n q (e - n) 0 ∙ ap (λ (i : ℕ). get_or q i 0) at

  pub closed_unique : p ≡ q
  closed_unique = ext_get_or 0 p q (a.size ∙ sym b.size) (λ e l. same_row e (dec_lt e n))
