-- The laws of specs/steps/Doubled.antt. Assumes nothing.
--     others_marks      a set without its least member, as the machine makes it, tells whether there are two
--     not_doubled       no mask has two members: no event has two sources, and none is named
use Rattle.std.proofs.Common.{◌≡◌, ℕ, zero, suc, ◌+◌, ◌-◌, ◌*◌, ◌/◌, ◌%◌, ◌^◌, ◌<◌, ◌≤◌, min, true, false, eqb, ◌⊎◌, List, get_or, sym, ap, ◌∙◌, subst, inl, inr, ⊎_elim, pow-suc, arith, le-ltb, eqb-true}
use native.Mathlib.Decide.{ℕ_discrete}
use lib.Bits.{bit_and, and_step, and_self, and_zero_l}
use lib.Count.{count_trailing_zeros}
use Rattle.basis.proofs.BoolLaws.{or_either, false_of, not_both_ways}
use Rattle.answer.specs.Rules.{unbreached}
use Rattle.sets.specs.Mask.{slots, mem, Has}
use Rattle.sets.proofs.MaskLaws.{mem_zero, mem_suc, mem_empty, lowest_in}
use Rattle.cells.specs.First.{first_of}
use Rattle.cells.proofs.FirstLaws.{first_past}
use Rattle.tables.specs.Tables.{accesses}
use Rattle.torn.specs.Torn.{two_in, two_sources_in, pairs, torn_in, named_in}
use Rattle.torn.specs.steps.Noticed.{Marks}
use Rattle.torn.specs.steps.Doubled.{Twice, Doubled}
use Rattle.torn.proofs.TornLaws.{none_here}
use Rattle.torn.proofs.TwoLaws.{two_parts}

-- the set m without its least member
unfoldable others_of : ℕ → ℕ
others_of m = bit_and m (m - 1)

others_is : (m r : ℕ) → r < 2 ^ slots → (r + 1) % 2 ^ slots ≡ m → bit_and m r ≡ others_of m
unfolding others_of
others_is m r l e = go (ℕ_discrete m 0)
  where
    go : Dec (m ≡ 0) → bit_and m r ≡ bit_and m (m - 1)
    go (yes z) = ap (λ (x : ℕ). bit_and x r) z ∙ and_zero_l r ∙ sym (ap (λ (x : ℕ). bit_and x (m - 1)) z ∙ and_zero_l (m - 1))
    go (no z) = let q : r ≡ m - 1 = omega (arith, z) in ap (bit_and m) q

-- ---- by the lowest place

odd_or_even : (m : ℕ) → (m % 2 ≡ 1) ⊎ (m % 2 ≡ 0)
odd_or_even m = go (ℕ_discrete (m % 2) 1)
  where
    go : Dec (m % 2 ≡ 1) → (m % 2 ≡ 1) ⊎ (m % 2 ≡ 0)
    go (yes e) = inl e
    go (no e) = inr (omega (arith, e))

-- all that is left of an odd number
others_odd : (m : ℕ) → m % 2 ≡ 1 → others_of m ≡ m / 2 * 2
unfolding others_of
others_odd m h =
    let a : (m - 1) / 2 ≡ m / 2 = omega arith in
    let b : min (m % 2) ((m - 1) % 2) ≡ 0 = omega arith in
    let s = and_step m (m - 1) in
    let t = ap (bit_and (m / 2)) a ∙ and_self (m / 2) in
    s ∙ ap (λ (x : ℕ). x * 2 + min (m % 2) ((m - 1) % 2)) t ∙ ap (λ (x : ℕ). m / 2 * 2 + x) b ∙ omega arith

-- an even number's are those of its half
others_even : (m : ℕ) → m % 2 ≡ 0 → others_of m ≡ others_of (m / 2) * 2
unfolding others_of
others_even m h =
    let a : (m - 1) / 2 ≡ m / 2 - 1 = omega arith in
    let b : min (m % 2) ((m - 1) % 2) ≡ 0 = omega arith in
    and_step m (m - 1) ∙ ap (λ (x : ℕ). bit_and (m / 2) x * 2 + min (m % 2) ((m - 1) % 2)) a ∙ ap (λ (x : ℕ). bit_and (m / 2) (m / 2 - 1) * 2 + x) b ∙ add_zero (bit_and (m / 2) (m / 2 - 1) * 2)
  where
    add_zero : (x : ℕ) → x + 0 ≡ x
    add_zero x = omega arith

half_nothing : (x : ℕ) → x * 2 ≡ 0 → x ≡ 0
half_nothing x e = omega arith

none_even : (m : ℕ) → others_of m ≡ 0 → m % 2 ≡ 0 → others_of (m / 2) ≡ 0
none_even m e h = half_nothing (others_of (m / 2)) (sym (others_even m h) ∙ e)

none_odd : (m : ℕ) → others_of m ≡ 0 → m % 2 ≡ 1 → m / 2 ≡ 0
none_odd m e h = half_nothing (m / 2) (sym (others_odd m h) ∙ e)

-- ---- two members

others_none : (a b m : ℕ) → others_of m ≡ 0 → a < b → Has m a → Has m b → ⊥
others_none a zero m e l h k = omega arith
others_none zero (suc b) m e l h k = not_both_ways (sym (mem_suc m b) ∙ k) (ap (λ (x : ℕ). mem x b) (none_odd m e (eqb-true (m % 2) 1 (sym (mem_zero m) ∙ h))) ∙ mem_empty b)
others_none (suc a) (suc b) m e l h k =
    ⊎_elim (λ o. not_both_ways (sym (mem_suc m b) ∙ k) (ap (λ (x : ℕ). mem x b) (none_odd m e o) ∙ mem_empty b))
    (λ o. others_none a b (m / 2) (none_even m e o) (omega arith) (sym (mem_suc m a) ∙ h) (sym (mem_suc m b) ∙ k)) (odd_or_even m)

others_some : (n m : ℕ) → m < 2 ^ n → (others_of m ≡ 0 → ⊥) → Twice m
unfolding others_of
others_some zero m l f = absurd (f (let z : m ≡ 0 = omega arith in ap (λ (x : ℕ). bit_and x (m - 1)) z ∙ and_zero_l (m - 1)))
others_some (suc n) m l f = ⊎_elim odd (even (others_some n (m / 2) half)) (odd_or_even m)
  where
    half : m / 2 < 2 ^ n
    half = let z = pow-suc 2 n in omega arith

    odd : m % 2 ≡ 1 → Twice m
    odd o =
        let some : 0 < m / 2 = positive (m / 2) (λ z. f (others_odd m o ∙ ap (λ (x : ℕ). x * 2) z)) in
        record {
          first = 0;
          second = suc (count_trailing_zeros n (m / 2));
          rising = omega arith;
          has_first = mem_zero m ∙ ap (λ (x : ℕ). eqb x 1) o;
          has_second = mem_suc m (count_trailing_zeros n (m / 2)) ∙ lowest_in n (m / 2) some half;
        }
      where
        positive : (x : ℕ) → (x ≡ 0 → ⊥) → 0 < x
        positive x g = omega (arith, g)

    even : ((others_of (m / 2) ≡ 0 → ⊥) → Twice (m / 2)) → m % 2 ≡ 0 → Twice m
    even ih o =
        let t = ih (λ z. f (others_even m o ∙ ap (λ (x : ℕ). x * 2) z)) in
        record {
          first = suc t.first;
          second = suc t.second;
          rising = let r = t.rising in omega arith;
          has_first = mem_suc m t.first ∙ t.has_first;
          has_second = mem_suc m t.second ∙ t.has_second;
        }

pub others_marks : (m r : ℕ) → m < 2 ^ slots → r < 2 ^ slots → (r + 1) % 2 ^ slots ≡ m → Marks (bit_and m r) (Twice m)
others_marks m r few l e =
    subst (λ (x : ℕ). Marks x (Twice m)) (sym (others_is m r l e))
    (record { none = λ z t. others_none t.first t.second m z t.rising t.has_first t.has_second; some = λ f. others_some slots m few f })

-- ---- the masks of the sources

module _ (s : List ℕ) (n : ℕ) (few : n ≤ slots) (no : Doubled s → ⊥) where
  no_pair_lem : (k : ℕ) → k < accesses → (p : ℕ) → two_in (get_or s k 0) p ≡ true → ⊥
  no_pair_lem k h p y =
      let w = two_parts (get_or s k 0) p y in
      no (record { at = k; inside = h; holds = record { first = p / slots; second = p % slots; rising = w.0; has_first = w.1.0; has_second = w.1.1 } })

  no_sources : (e : ℕ) → e < n → (p : ℕ) → two_sources_in s e p ≡ false
  unfolding two_sources_in
  no_sources e h p =
      false_of _ (λ y. ⊎_elim (no_pair_lem (2 * e) (omega arith) p) (no_pair_lem (2 * e + 1) (omega arith) p) (or_either (two_in (get_or s (2 * e) 0) p) (two_in (get_or s (2 * e + 1) 0) p) y))

  not_torn : (e : ℕ) → e < n → torn_in s e ≡ false
  unfolding torn_in
  not_torn e h =
      let z = first_past (two_sources_in s e) pairs pairs (omega arith) (λ p l. no_sources e h p) in
      le-ltb (first_of (two_sources_in s e) pairs) pairs (omega arith)

  pub not_doubled : unbreached ≡ named_in s n
  not_doubled = none_here s n not_torn
