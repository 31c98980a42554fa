-- The laws of specs/Cells.antt. Assumes nothing.
--     gaining_length, gaining_mem     one mask has gained an event
--     gaining_back, gaining_keep, gaining_new     the same as facts, wherever the mask stands
--     spread_length, spread-mem       a column of masks has
--     scatter_length, scatter_mem     the masks at the members of a set have
--     placing_none, placing_more, placing_length, placing_beyond, placing_at     places written one by one
use mathlib.Core.Path.{◌≡◌, refl, sym, ap, ◌∙◌, subst}
use mathlib.Core.Bool.{Bool, true, false, cond}
use mathlib.Core.Logic.{◌⊎◌, inl, inr, ⊎_elim}
use mathlib.Core.List.{List}
use Prim.Native.Nat.{ℕ, zero, suc, ◌+◌, ◌*◌, ◌≤◌, ◌<◌}
use native.Mathlib.Omega.{arith}
use native.Mathlib.Decide.{ℕ_discrete, dec_lt}
use borrow.Author.Tests.{eq-eqb, eqb-true, le-ltb}
use lib.Dec.{eqb, ltb}
use lib.ListN.{length, get_or, set, length-set}
use lib.Seq.{get_or-set_same, get_or-set_other, set_out}
use Rattle.basis.specs.Test.{◌and◌, ◌or◌}
use Rattle.basis.proofs.BoolLaws.{and_holds, and_both, or_holds, or_either, or_none, or_second, and_fails, or_assoc, and_swap, below_next, by_bool, bool_ext}
use Rattle.cells.proofs.WalkLaws.{up_to_more}
use Rattle.sets.specs.Mask.{slots, mem, Has, insert}
use Rattle.sets.proofs.MaskLaws.{insert_new, insert_old, insert_cases}
use Rattle.cells.specs.Walk.{up_to, only_of, over}
use Rattle.cells.specs.Cells.{gaining, gain_at, spread, gain_one, scatter, put_at, placing}

pub gaining_length : (l : List ℕ) (i e : ℕ) → length (gaining l i e) ≡ length l
unfolding gaining
gaining_length l i e = length-set l i (insert (get_or l i 0) e)

-- as facts: what a mask has after, what it had, and what is new
gaining_elim : (l : List ℕ) (i e j q : ℕ) → i < length l → Has (get_or (gaining l i e) j 0) q → Has (get_or l j 0) q ⊎ ((i ≡ j) × (e ≡ q))
unfolding gaining
gaining_elim l i e j q b h = go (ℕ_discrete j i)
  where
    go : Dec (j ≡ i) → Has (get_or l j 0) q ⊎ ((i ≡ j) × (e ≡ q))
    go (no d) = inl (subst (λ (x : ℕ). Has x q) (get_or-set_other l i j (insert (get_or l i 0) e) 0 d) h)
    go (yes d) =
        ⊎_elim (λ c. inr (sym d, sym c)) (λ c. inl (subst (λ (x : ℕ). Has (get_or l x 0) q) (sym d) c))
        (insert_cases (get_or l i 0) e q (subst (λ (x : ℕ). Has x q) (ap (λ (x : ℕ). get_or (set l i (insert (get_or l i 0) e)) x 0) d ∙ get_or-set_same l i (insert (get_or l i 0) e) 0 b) h))

gaining_old : (l : List ℕ) (i e j q : ℕ) → i < length l → Has (get_or l j 0) q → Has (get_or (gaining l i e) j 0) q
unfolding gaining
gaining_old l i e j q b h = go (ℕ_discrete j i)
  where
    go : Dec (j ≡ i) → Has (get_or (set l i (insert (get_or l i 0) e)) j 0) q
    go (no d) = subst (λ (x : ℕ). Has x q) (sym (get_or-set_other l i j (insert (get_or l i 0) e) 0 d)) h
    go (yes d) =
        subst (λ (x : ℕ). Has x q) (sym (ap (λ (x : ℕ). get_or (set l i (insert (get_or l i 0) e)) x 0) d ∙ get_or-set_same l i (insert (get_or l i 0) e) 0 b))
        (insert_old (get_or l i 0) e q (subst (λ (x : ℕ). Has (get_or l x 0) q) d h))

gaining_put : (l : List ℕ) (i e : ℕ) → i < length l → Has (get_or (gaining l i e) i 0) e
unfolding gaining
gaining_put l i e b = subst (λ (x : ℕ). Has x e) (sym (get_or-set_same l i (insert (get_or l i 0) e) 0 b)) (insert_new (get_or l i 0) e)

pub gaining_mem : (l : List ℕ) (i e j q : ℕ) → i < length l → mem (get_or (gaining l i e) j 0) q ≡ (mem (get_or l j 0) q or (eqb i j and eqb e q))
unfolding ◌or◌
gaining_mem l i e j q b =
    bool_ext (mem (get_or (gaining l i e) j 0) q) (mem (get_or l j 0) q or (eqb i j and eqb e q))
    (λ h. ⊎_elim (λ c. or_holds _ (eqb i j and eqb e q) c) (λ c. or_second (mem (get_or l j 0) q) _ (and_holds (eqb i j) (eqb e q) (eq-eqb i j c.0) ∙ eq-eqb e q c.1)) (gaining_elim l i e j q b h))
    (λ h. ⊎_elim (λ c. gaining_old l i e j q b c) (λ c. let p = and_both (eqb i j) (eqb e q) c in subst (λ (x : ℕ). Has (get_or (gaining l i e) j 0) x) (eqb-true e q p.1) (subst (λ (x : ℕ). Has (get_or (gaining l i e) x 0) e) (eqb-true i j p.0) (gaining_put l i e b))) (or_either (mem (get_or l j 0) q) (eqb i j and eqb e q) h))

-- wherever the mask that gains stands
module _ (l : List ℕ) (i e a v : ℕ) (inside : a < length l) where
  pub gaining_back : Has (get_or (gaining l i e) a 0) v → Has (get_or l a 0) v ⊎ ((i ≡ a) × (e ≡ v))
  unfolding gaining
  gaining_back h = go (dec_lt i (length l))
    where
      go : Dec (i < length l) → Has (get_or l a 0) v ⊎ ((i ≡ a) × (e ≡ v))
      go (yes k) =
          ⊎_elim (λ g. inl g) (λ g. let p = and_both (eqb i a) (eqb e v) g in inr (eqb-true i a p.0, eqb-true e v p.1))
          (or_either (mem (get_or l a 0) v) (eqb i a and eqb e v) (sym (gaining_mem l i e a v k) ∙ h))
      go (no k) = inl (subst (λ (z : List ℕ). Has (get_or z a 0) v) (set_out l i (insert (get_or l i 0) e) (omega (arith, k))) h)

  pub gaining_keep : Has (get_or l a 0) v → Has (get_or (gaining l i e) a 0) v
  unfolding gaining
  gaining_keep h = go (dec_lt i (length l))
    where
      go : Dec (i < length l) → Has (get_or (set l i (insert (get_or l i 0) e)) a 0) v
      go (yes k) = gaining_mem l i e a v k ∙ or_holds (mem (get_or l a 0) v) (eqb i a and eqb e v) h
      go (no k) = subst (λ (z : List ℕ). Has (get_or z a 0) v) (sym (set_out l i (insert (get_or l i 0) e) (omega (arith, k)))) h

  pub gaining_new : i ≡ a → e ≡ v → Has (get_or (gaining l i e) a 0) v
  gaining_new p q = gaining_mem l i e a v (omega arith) ∙ or_second (mem (get_or l a 0) v) _ (and_holds (eqb i a) (eqb e v) (eq-eqb i a p) ∙ eq-eqb e v q)

-- ---- a column of masks

module _ (m w e : ℕ) (l : List ℕ) where
  abbrev after : ℕ → List ℕ
  after k = up_to (only_of m (gain_at w e)) k l

  after_in : (k : ℕ) → Has m k → after (suc k) ≡ gaining (after k) (k * slots + w) e
  unfolding up_to
  after_in k h = ap (λ (c : Bool). cond c (gaining (after k) (k * slots + w) e) (after k)) h

  after_out : (k : ℕ) → mem m k ≡ false → after (suc k) ≡ after k
  unfolding up_to
  after_out k h = ap (λ (c : Bool). cond c (gaining (after k) (k * slots + w) e) (after k)) h

  after_length : (k : ℕ) → length (after k) ≡ length l
  unfolding up_to
  after_length zero = refl
  after_length (suc k) =
      by_bool (mem m k) (λ h. ap length (after_in k h) ∙ gaining_length (after k) (k * slots + w) e ∙ after_length k) (λ h. ap length (after_out k h) ∙ after_length k)

  pub spread_length : length (spread l m w e) ≡ length l
  unfolding spread over
  spread_length = after_length slots

  module _ (inside : slots * slots ≤ length l) (w-slot : w < slots) (v u q : ℕ) (u-slot : u < slots) where
    place : (k : ℕ) → k < slots → k * slots + w < length (after k)
    place k h = let s = after_length k in omega arith

    came : (k : ℕ) → k ≤ slots → Has (get_or (after k) (v * slots + u) 0) q → Has (get_or l (v * slots + u) 0) q ⊎ (Has m v × ((w ≡ u) × (e ≡ q)))
    unfolding up_to
    came zero b h = inl h
    came (suc k) b h =
        by_bool (mem m k)
        (λ c. ⊎_elim (λ g. came k (omega arith) g) (λ g. let i : k ≡ v = let z = g.0 in omega arith in inr (subst (λ (x : ℕ). Has m x) i c, (let z = g.0 in omega arith, g.1)))
        (gaining_elim (after k) (k * slots + w) e (v * slots + u) q (place k b) (subst (λ (x : List ℕ). Has (get_or x (v * slots + u) 0) q) (after_in k c) h)))
        (λ c. came k (omega arith) (subst (λ (x : List ℕ). Has (get_or x (v * slots + u) 0) q) (after_out k c) h))

    keep : (k : ℕ) → k < slots → Has (get_or (after k) (v * slots + u) 0) q → Has (get_or (after (suc k)) (v * slots + u) 0) q
    keep k b h =
        by_bool (mem m k)
        (λ c. subst (λ (x : List ℕ). Has (get_or x (v * slots + u) 0) q) (sym (after_in k c)) (gaining_old (after k) (k * slots + w) e (v * slots + u) q (place k b) h))
        (λ c. subst (λ (x : List ℕ). Has (get_or x (v * slots + u) 0) q) (sym (after_out k c)) h)

    old : (k : ℕ) → k ≤ slots → Has (get_or l (v * slots + u) 0) q → Has (get_or (after k) (v * slots + u) 0) q
    unfolding up_to
    old zero b h = h
    old (suc k) b h = keep k b (old k (omega arith) h)

    new : (k : ℕ) → k ≤ slots → v < k → Has m v → w ≡ u → e ≡ q → Has (get_or (after k) (v * slots + u) 0) q
    new zero b g c d f = absurd (omega arith)
    new (suc k) b g c d f = go (ℕ_discrete v k) (new k)
      where
        go : Dec (v ≡ k) → (k ≤ slots → v < k → Has m v → w ≡ u → e ≡ q → Has (get_or (after k) (v * slots + u) 0) q) → Has (get_or (after (suc k)) (v * slots + u) 0) q
        go (no z) ih = keep k b (ih (omega arith) (omega (arith, z)) c d f)
        go (yes z) ih =
            let i : k * slots + w ≡ v * slots + u = omega arith in
            subst (λ (x : List ℕ). Has (get_or x (v * slots + u) 0) q) (sym (after_in k (subst (λ (x : ℕ). Has m x) z c)))
            (subst (λ (x : ℕ). Has (get_or (gaining (after k) (k * slots + w) e) x 0) q) i
            (subst (λ (x : ℕ). Has (get_or (gaining (after k) (k * slots + w) e) (k * slots + w) 0) x) f (gaining_put (after k) (k * slots + w) e (place k b))))

    pub spread_elim : Has (get_or (spread l m w e) (v * slots + u) 0) q → Has (get_or l (v * slots + u) 0) q ⊎ (Has m v × ((w ≡ u) × (e ≡ q)))
    unfolding spread over
    spread_elim h = came slots (omega arith) h

    pub spread_old : Has (get_or l (v * slots + u) 0) q → Has (get_or (spread l m w e) (v * slots + u) 0) q
    unfolding spread over
    spread_old h = old slots (omega arith) h

    pub spread_new : v < slots → Has m v → w ≡ u → e ≡ q → Has (get_or (spread l m w e) (v * slots + u) 0) q
    unfolding spread over
    spread_new b c d f = new slots (omega arith) b c d f

-- ---- the masks at the members of a set

module _ (m e : ℕ) (l : List ℕ) where
  abbrev gone : ℕ → List ℕ
  gone k = up_to (only_of m (gain_one e)) k l

  gone_length : (k : ℕ) → length (gone k) ≡ length l
  unfolding up_to
  gone_length zero = refl
  gone_length (suc k) = go (mem m k) ∙ gone_length k
    where
      go : (b : Bool) → length (cond b (gaining (gone k) k e) (gone k)) ≡ length (gone k)
      go true = gaining_length (gone k) k e
      go false = refl

  pub scatter_length : length (scatter l m e) ≡ length l
  unfolding scatter over
  scatter_length = gone_length slots

  module _ (inside : slots ≤ length l) (d q : ℕ) where
    one_more : (c : Bool) (k : ℕ) (r : List ℕ) → k < length r → mem (get_or (cond c (gaining r k e) r) d 0) q ≡ (mem (get_or r d 0) q or ((c and eqb e q) and eqb k d))
    unfolding ◌and◌ ◌or◌
    one_more true k r h = gaining_mem r k e d q h ∙ ap (λ (b : Bool). mem (get_or r d 0) q or b) (and_swap (eqb k d) (eqb e q))
    one_more false k r h = sym (or_none (mem (get_or r d 0) q))

    gone_mem : (k : ℕ) → k ≤ slots → mem (get_or (gone k) d 0) q ≡ (mem (get_or l d 0) q or (ltb d k and (mem m d and eqb e q)))
    unfolding up_to ◌or◌
    gone_mem zero b = sym (ap (λ (z : Bool). mem (get_or l d 0) q or z) (and_fails (ltb d 0) _ (le-ltb d 0 (omega arith))) ∙ or_none (mem (get_or l d 0) q))
    gone_mem (suc k) b =
        one_more (mem m k) k (gone k) (let z = gone_length k in omega arith)
        ∙ ap (λ (z : Bool). z or ((mem m k and eqb e q) and eqb k d)) (gone_mem k (omega arith))
        ∙ or_assoc (mem (get_or l d 0) q) (ltb d k and (mem m d and eqb e q)) ((mem m k and eqb e q) and eqb k d)
        ∙ ap (λ (z : Bool). mem (get_or l d 0) q or z) (below_next (λ (i : ℕ). mem m i and eqb e q) k d)

    pub scatter_mem : mem (get_or (scatter l m e) d 0) q ≡ (mem (get_or l d 0) q or (ltb d slots and (mem m d and eqb e q)))
    unfolding scatter over
    scatter_mem = gone_mem slots (omega arith)

-- ---- places, one by one

module _ (f : ℕ → ℕ) (l : List ℕ) where
  pub placing_none : l ≡ placing f 0 l
  unfolding placing up_to
  placing_none = refl

  pub placing_more : (n : ℕ) → set (placing f n l) n (f n) ≡ placing f (n + 1) l
  unfolding placing
  placing_more n = sym (up_to_more (put_at f) n l)

  pub placing_length : (n : ℕ) → length (placing f n l) ≡ length l
  unfolding placing up_to
  placing_length zero = refl
  placing_length (suc n) = length-set (up_to (put_at f) n l) n (f n) ∙ placing_length n

  pub placing_beyond : (n e : ℕ) → n ≤ e → get_or (placing f n l) e 0 ≡ get_or l e 0
  unfolding placing up_to
  placing_beyond zero e h = refl
  placing_beyond (suc n) e h = get_or-set_other (up_to (put_at f) n l) n e (f n) 0 (λ q. omega arith) ∙ placing_beyond n e (omega arith)

  pub placing_at : (n e : ℕ) → e < n → e < length l → get_or (placing f n l) e 0 ≡ f e
  unfolding placing up_to
  placing_at zero e h k = absurd (omega arith)
  placing_at (suc n) e h k = go (ℕ_discrete e n) (placing_at n e)
    where
      go : Dec (e ≡ n) → (e < n → e < length l → get_or (up_to (put_at f) n l) e 0 ≡ f e) → get_or (set (up_to (put_at f) n l) n (f n)) e 0 ≡ f e
      go (no d) ih = get_or-set_other (up_to (put_at f) n l) n e (f n) 0 d ∙ ih (omega (arith, d)) k
      go (yes d) ih =
          let z : length (up_to (put_at f) n l) ≡ length l = placing_length n in
          ap (λ (i : ℕ). get_or (set (up_to (put_at f) n l) n (f n)) i 0) d ∙ get_or-set_same (up_to (put_at f) n l) n (f n) 0 (omega arith) ∙ ap f (sym d)
