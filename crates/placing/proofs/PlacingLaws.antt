-- The laws of specs/Placing.antt: that two conforming answers agree; and what a turn looks up. Assumes nothing.
--     next_unique                      the next event
--     lowest_unique                    the lowest that can be placed
--     entered_unique                   a step on
--     found_unique                     what is found, where what is said holds of one number alone
--     found_next_unique, found_lowest_unique     so the answers of `next`, and of `lowest`
--     found_map                        what is said of an event that is found, or of none
--     found_some, found_none           what is found, where the answer is known
--     looked                           the set that is looked up, as the code has it
use Prim.Native.Nat.{ℕ, ◌%◌, ◌<◌}
use mathlib.Core.Path.{◌≡◌, refl, sym, ap, subst, ◌∙◌}
use Rattle.std.specs.Prelude.{Option, None, Some}
use mathlib.Core.List.{List}
use native.Mathlib.Nat.{mod-eq_of_lt}
use native.Mathlib.Omega.{arith}
use native.Mathlib.Decide.{dec_lt}
use Rattle.basis.proofs.BoolLaws.{not_both_ways}
use Rattle.sets.specs.Mask.{slots, insert, above}
use Rattle.placing.specs.Placing.{FoundBelow, NextFree, LowestFree, Entered}

pub looked : (s e k : ℕ) {w x : ℕ} → e < slots → w ≡ insert s (e % slots) → x ≡ above w k → x ≡ above (insert s e) k
looked s e k h a b = b ∙ ap (λ (y : ℕ). above y k) (a ∙ ap (insert s) (mod-eq_of_lt h))

module _ {k m : ℕ} {before bars writers table : List ℕ} {s from : ℕ} where
  first : {r q : ℕ} → NextFree k m before bars writers table s from r → NextFree k m before bars writers table s from q → r < q → ⊥
  first {r} a b l =
      let z = b.bound in
      let h : r < m = omega (arith, z) in
      not_both_ways (b.tried r (a.place h).0 l (a.place h).1 (a.free h)) (a.unseen h)

  pub next_unique : {r q : ℕ} → NextFree k m before bars writers table s from r → NextFree k m before bars writers table s from q → r ≡ q
  next_unique {r} {q} a b = go (dec_lt r q) (dec_lt q r)
    where
      go : Dec (r < q) → Dec (q < r) → r ≡ q
      go (yes l) h = absurd (first a b l)
      go (no l) (yes h) = absurd (first b a h)
      go (no l) (no h) = omega (arith, l, h)

module _ {m : ℕ} {before bars writers : List ℕ} {s from : ℕ} where
  lower : {r q : ℕ} → LowestFree m before bars writers s from r → LowestFree m before bars writers s from q → r < q → ⊥
  lower {r} a b l =
      let z = b.bound in
      let h : r < m = omega (arith, z) in
      b.none r (a.place h).0 l (a.place h).1 (a.free h)

  pub lowest_unique : {r q : ℕ} → LowestFree m before bars writers s from r → LowestFree m before bars writers s from q → r ≡ q
  lowest_unique {r} {q} a b = go (dec_lt r q) (dec_lt q r)
    where
      go : Dec (r < q) → Dec (q < r) → r ≡ q
      go (yes l) h = absurd (lower a b l)
      go (no l) (yes h) = absurd (lower b a h)
      go (no l) (no h) = omega (arith, l, h)

pub entered_unique : {k s e depth : ℕ} {table path : List ℕ} {r q : ℕ} {t u o p : List ℕ} → Entered k s e depth table path r t o
    → Entered k s e depth table path q u p → (r ≡ q) × (t ≡ u) × (o ≡ p)
entered_unique a b = (a.grown ∙ sym b.grown, a.marked ∙ sym b.marked, a.stored ∙ sym b.stored)

pub found_map : (m : ℕ) {P Q : ℕ → Type 0} → ((e : ℕ) → P e → Q e) → (r : Option ℕ) → FoundBelow m P r → FoundBelow m Q r
found_map m f None h = f m h
found_map m f (Some e) h = (h.0, f e h.1)

pub found_unique : (m : ℕ) {P : ℕ → Type 0} → ((a b : ℕ) → P a → P b → a ≡ b) → (r q : Option ℕ) → FoundBelow m P r → FoundBelow m P q → r ≡ q
found_unique m one (Some a) (Some b) g h = ap Some (one a b g.1 h.1)
found_unique m one (Some a) None g h = let e = one a m g.1 h in let l = g.0 in absurd (omega (arith, e, l))
found_unique m one None (Some b) g h = let e = one b m h.1 g in let l = h.0 in absurd (omega (arith, e, l))
found_unique m one None None g h = refl

pub found_next_unique : (k m : ℕ) (before bars writers table : List ℕ) (s from : ℕ) (r q : Option ℕ) → FoundBelow m (NextFree k m before bars writers table s from) r
    → FoundBelow m (NextFree k m before bars writers table s from) q → r ≡ q
found_next_unique k m before bars writers table s from r q =
    found_unique m {P = NextFree k m before bars writers table s from} (λ a b g h. next_unique g h) r q

pub found_lowest_unique : (m : ℕ) (before bars writers : List ℕ) (s from : ℕ) (r q : Option ℕ) → FoundBelow m (LowestFree m before bars writers s from) r
    → FoundBelow m (LowestFree m before bars writers s from) q → r ≡ q
found_lowest_unique m before bars writers s from r q = found_unique m {P = LowestFree m before bars writers s from} (λ a b g h. lowest_unique g h) r q

pub found_some : (m : ℕ) (P : ℕ → Type 0) {r : Option ℕ} {e : ℕ} → r ≡ Some e → FoundBelow m P r → (e < m) × P e
found_some m P h f = subst (FoundBelow m P) h f

pub found_none : (m : ℕ) (P : ℕ → Type 0) {r : Option ℕ} → r ≡ None → FoundBelow m P r → P m
found_none m P h f = subst (FoundBelow m P) h f
