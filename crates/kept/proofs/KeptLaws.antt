-- The laws of specs/Kept.antt. Assumes nothing.
--     sub_refl sub_append sub_one sub_none sub_in sub_length sub_sorted    parts of a list
--     walk_none     where all bars leave no order, what is kept leaves none
--     walk_needs    without any one of what is kept some order exists
--     walk_sub      what is kept is a part of the bars
--     walk_unique   there is one such list
--     walk_each     of bars in another form, in that form
--     kept_walk kept_is     the walk by a test, and that it is the one
--     kept_same             of two statements that agree on the parts of the bars
--     kept_nothing          nothing is kept exactly where no bars at all leave no order
use Prim.Native.Nat.{ℕ, ◌≤◌}
use mathlib.Core.Path.{◌≡◌, refl, sym, ap, subst, ◌∙◌}
use mathlib.Core.Logic.{◌↔◌}
use mathlib.Core.Bool.{Bool, true, false, cond}
use mathlib.Core.List.{List, [], ◌∷◌, ◌++◌, append_assoc, Memᴰ}
use native.Mathlib.Omega.{arith}
use lib.ListN.{length}
use Rattle.basis.specs.Test.{each}
use Rattle.basis.proofs.BoolLaws.{true_T, T_true, T_false}
use Rattle.basis.proofs.ListLaws.{each_append}
use Rattle.basis.proofs.FindLaws.{Sorted}
use Rattle.kept.specs.Kept.{kept_of, kept, Walk, end, drop, keep, KeptOf, TellsNone, Sub, none, skip, both, Fewer}

module _ {A : Type 0} where
  -- ---- parts of a list

  pub sub_refl : (l : List A) → Sub l l
  sub_refl [] = none
  sub_refl (b ∷ l) = both (sub_refl l)

  pub sub_none : (l : List A) → Sub [] l
  sub_none [] = none
  sub_none (b ∷ l) = skip (sub_none l)

  pub sub_append : (p : List A) {k l : List A} → Sub k l → Sub (p ++ k) (p ++ l)
  sub_append [] s = s
  sub_append (b ∷ p) s = both (sub_append p s)

  -- one left out
  pub sub_one : (p : List A) (b : A) (q : List A) → Sub (p ++ q) (p ++ (b ∷ q))
  sub_one p b q = sub_append p (skip (sub_refl q))

  pub sub_in : {k l : List A} → Sub k l → (x : A) → Memᴰ x k → Memᴰ x l
  sub_in none x h = h
  sub_in (skip s) x h = Memᴰ.tail (sub_in s x h)
  sub_in (both s) x (Memᴰ.head p) = Memᴰ.head p
  sub_in (both s) x (Memᴰ.tail h) = Memᴰ.tail (sub_in s x h)

  pub sub_length : {k l : List A} → Sub k l → length k ≤ length l
  sub_length none = omega arith
  sub_length (skip s) = let r = sub_length s in omega arith
  sub_length (both s) = let r = sub_length s in omega arith

  pub sub_sorted : (R : A → A → Type 0) {k l : List A} → Sub k l → Sorted R l → Sorted R k
  sub_sorted R none r = tt
  sub_sorted R (skip s) r = sub_sorted R s r.1
  sub_sorted R (both s) r = ((λ y h. r.0 y (sub_in s y h)), sub_sorted R s r.1)

  -- ---- the walk

  snoc : (done : List A) (b : A) (rest : List A) → (done ++ (b ∷ [])) ++ rest ≡ done ++ (b ∷ rest)
  snoc done b rest = append_assoc done (b ∷ []) rest

  module _ {L : List A → Type 0} where
    pub walk_none : {done rest l : List A} → (L (done ++ rest) → ⊥) → Walk L done rest l → L (done ++ l) → ⊥
    walk_none n end h = n h
    walk_none n (drop d w) h = walk_none d w h
    walk_none n (keep {done} {rest} {l} {b} d w) h = walk_none (λ x. n (subst L (snoc done b rest) x)) w (subst L (sym (snoc done b l)) h)

    pub walk_sub : {done rest l : List A} → Walk L done rest l → Sub l rest
    walk_sub end = none
    walk_sub (drop d w) = skip (walk_sub w)
    walk_sub (keep d w) = both (walk_sub w)

    pub walk_unique : {done rest k l : List A} → Walk L done rest k → Walk L done rest l → k ≡ l
    walk_unique end end = refl
    walk_unique (drop d w) (drop e v) = walk_unique w v
    walk_unique (drop d w) (keep e v) = absurd (d e)
    walk_unique (keep d w) (drop e v) = absurd (e d)
    walk_unique (keep {b = b} d w) (keep e v) = ap (λ (x : List A). b ∷ x) (walk_unique w v)

    module _ (fewer : Fewer L) where
      pub walk_needs : {done rest l : List A} → Walk L done rest l → (p q : List A) (b : A) → l ≡ p ++ (b ∷ q) → L (done ++ (p ++ q))
      walk_needs end [] q b e = let z : ◌≡◌ {A = ℕ} 0 1 = cc in absurd (omega arith)
      walk_needs end (a ∷ p) q b e = let z : ◌≡◌ {A = ℕ} 0 1 = cc in absurd (omega arith)
      walk_needs (drop d w) p q b e = walk_needs w p q b e
      walk_needs (keep {done} {rest} {l} {b = c} d w) [] q b e =
          let same : l ≡ q = cc in fewer (done ++ q) (done ++ rest) (sub_append done (subst (λ (x : List A). Sub x rest) same (walk_sub w))) d
      walk_needs (keep {done} {rest} {l} {b = c} d w) (a ∷ p) q b e =
          let same : l ≡ p ++ (b ∷ q) = cc in
          let head : c ≡ a = cc in
          subst (λ (x : A). L (done ++ (x ∷ (p ++ q)))) head (subst L (snoc done c (p ++ q)) (walk_needs w p q b same))

      pub kept_nothing : {bars : List A} (l : List A) → KeptOf L bars l → (l ≡ []) ↔ (L [] → ⊥)
      kept_nothing [] k = ((λ e. walk_none k.broken k.walk), (λ n. refl))
      kept_nothing (b ∷ q) k = (
        (λ e. let z : ◌≡◌ {A = ℕ} 0 1 = cc in absurd (omega arith)),
        (λ n. absurd (n (fewer [] q (sub_none q) (walk_needs k.walk [] q b refl)))),
      )

    -- ---- by a test

    module _ (test : List A → Bool) {bars : List A} (tells : TellsNone test L bars) where
      abbrev Part : List A → Type 0
      Part l = (b : A) → Memᴰ b l → Memᴰ b bars

      kept_drop : (b : A) (done rest : List A) → Part (done ++ rest) → (L (done ++ rest) → ⊥) → kept_of test done (b ∷ rest) ≡ kept_of test done rest
      unfolding kept_of
      kept_drop b done rest p n =
          ap (λ (x : Bool). cond x (kept_of test done rest) (b ∷ kept_of test (done ++ (b ∷ [])) rest)) (T_true (test (done ++ rest)) ((tells (done ++ rest) p).1 n))

      kept_keep : (b : A) (done rest : List A) → Part (done ++ rest) → L (done ++ rest) → kept_of test done (b ∷ rest) ≡ b ∷ kept_of test (done ++ (b ∷ [])) rest
      unfolding kept_of
      kept_keep b done rest p h =
          ap (λ (x : Bool). cond x (kept_of test done rest) (b ∷ kept_of test (done ++ (b ∷ [])) rest)) (T_false (test (done ++ rest)) (λ t. (tells (done ++ rest) p).0 t h))

      part_drop : (done : List A) (b : A) (rest : List A) → Part (done ++ (b ∷ rest)) → Part (done ++ rest)
      part_drop done b rest p c m = p c (sub_in (sub_one done b rest) c m)

      part_keep : (done : List A) (b : A) (rest : List A) → Part (done ++ (b ∷ rest)) → Part ((done ++ (b ∷ [])) ++ rest)
      part_keep done b rest p c m = p c (subst (Memᴰ c) (snoc done b rest) m)

      walk_is : {done rest l : List A} → Part (done ++ rest) → Walk L done rest l → l ≡ kept_of test done rest
      unfolding kept_of
      walk_is p end = refl
      walk_is p (drop {done} {rest} {l} {b} d w) = walk_is (part_drop done b rest p) w ∙ sym (kept_drop b done rest (part_drop done b rest p) d)
      walk_is p (keep {done} {rest} {l} {b} d w) =
          ap (λ (x : List A). b ∷ x) (walk_is (part_keep done b rest p) w) ∙ sym (kept_keep b done rest (part_drop done b rest p) d)

      pub kept_is : {l : List A} → KeptOf L bars l → l ≡ kept test bars
      kept_is k = walk_is (λ b m. m) k.walk

      -- where not none, some: the walk by the test is a walk
      module _ (some : (l : List A) → Part l → test l ≡ false → L l) where
        walk_by : (done rest : List A) → Part (done ++ rest) → Walk L done rest (kept_of test done rest)
        unfolding kept_of
        walk_by done [] p = end
        walk_by done (b ∷ rest) p =
            on (test (done ++ rest)) refl (part_drop done b rest p) (walk_by done rest (part_drop done b rest p)) (walk_by (done ++ (b ∷ [])) rest (part_keep done b rest p))
          where
            on : (x : Bool) → test (done ++ rest) ≡ x → Part (done ++ rest) → Walk L done rest (kept_of test done rest) → Walk L (done ++ (b ∷ [])) rest (kept_of test (done ++ (b ∷ [])) rest)
                → Walk L done (b ∷ rest) (cond x (kept_of test done rest) (b ∷ kept_of test (done ++ (b ∷ [])) rest))
            on true e q u v = drop ((tells (done ++ rest) q).0 (true_T _ e)) u
            on false e q u v = keep (some (done ++ rest) q e) v

        pub kept_walk : (L bars → ⊥) → KeptOf L bars (kept test bars)
        kept_walk n = record { broken = n; walk = walk_by [] bars (λ b m. m) }

-- two statements that agree on the parts of the bars
module _ {A : Type 0} {L M : List A → Type 0} {bars : List A}
    (agree : (l : List A) → ((b : A) → Memᴰ b l → Memᴰ b bars) → L l ↔ M l) where
  walk_same : {done rest l : List A} → ((b : A) → Memᴰ b (done ++ rest) → Memᴰ b bars) → Walk L done rest l → Walk M done rest l
  walk_same p end = end
  walk_same p (drop {done} {rest} {l} {b} d w) =
      let q : (c : A) → Memᴰ c (done ++ rest) → Memᴰ c bars = λ c m. p c (sub_in (sub_one done b rest) c m) in
      drop (λ h. d ((agree (done ++ rest) q).1 h)) (walk_same q w)
  walk_same p (keep {done} {rest} {l} {b} d w) =
      let q : (c : A) → Memᴰ c (done ++ rest) → Memᴰ c bars = λ c m. p c (sub_in (sub_one done b rest) c m) in
      keep ((agree (done ++ rest) q).0 d) (walk_same (λ c m. p c (subst (Memᴰ c) (append_assoc done (b ∷ []) rest) m)) w)

  pub kept_same : {l : List A} → KeptOf L bars l → KeptOf M bars l
  kept_same k = record { broken = λ h. k.broken ((agree bars (λ b m. m)).1 h); walk = walk_same (λ b m. m) k.walk }

-- ---- bars in another form

module _ {A B : Type 0} (f : A → B) where
  pub walk_each : {L : List B → Type 0} {done rest l : List A} → Walk (λ k. L (each f k)) done rest l → Walk L (each f done) (each f rest) (each f l)
  unfolding each
  walk_each end = end
  walk_each {L} (drop {done} {rest} d w) = drop (λ h. d (subst L (sym (each_append f done rest)) h)) (walk_each w)
  walk_each {L} (keep {done} {rest} {l} {b} d w) =
      keep (subst L (each_append f done rest) d) (subst (λ (x : List B). Walk L x (each f rest) (each f l)) (each_append f done (b ∷ [])) (walk_each w))
