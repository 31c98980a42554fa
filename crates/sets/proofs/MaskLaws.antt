-- The laws of specs/Mask.antt: what `mem` says of each operation on sets. No law fixes the number of events. Assumes nothing.
--     mem_insert mem_remove mem_full mem_above mem_and mem_or mem_empty mem_one    membership of each operation
--     insert_new insert_old insert_cases    the same of `insert`, as facts
--     remove_old remove_cases               and of `remove`
--     ext ext_all                           two sets with the same members are one number
--     within_of of_within within_antisym    subsets, and the machine's test of them
--     mem_lt mem_beyond insert_lt above_lt  the width of a set
--     full_of full_has lt_of_members        the full set, and a set within it
--     lowest_in lowest_least lowest_none    the lowest member, as the machine counts it
--     lowest_unique                         there is one
--     remove_insert remove_lt               a member taken away
--     at_slot                               an event below `slots` is its own place in a mask
--     above_inj                             a set that has the first k events is known by the others
use mathlib.Core.Path.{◌≡◌, refl, sym, ap, ap₂, ◌∙◌, subst}
use mathlib.Core.Bool.{Bool, true, false, not, ◌&&◌, ◌||◌, or-false, and-false, and-true, false≢true}
use mathlib.Core.Logic.{◌⊎◌, inl, inr, ⊎_elim}
use Prim.Native.Nat.{ℕ, zero, suc, ◌+◌, ◌-◌, ◌*◌, ◌/◌, ◌%◌, ◌^◌, ◌≤◌, ◌<◌, zero-le, suc-le-suc}
use native.Mathlib.Nat.{mod-lt, zero-div, div-one, pow-suc, le_of_suc-le-suc, not-suc-le-zero, zero-lt-suc, lt_of_lt_of_le, mul-div_cancel, mul-mod_left, div-eq_of_lt, lt_of_le_of_lt, lt-suc_self, sub-zero, one-mul, mod-eq_of_lt, lt_irrefl}
use native.Mathlib.Numerals.{add-one, one-add}
use native.Mathlib.Omega.{arith}
use native.Mathlib.Decide.{dec_le, dec_lt, ℕ_discrete}
use borrow.Author.Tests.{ne_eqb, eqb-true}
use lib.Dec.{eqb, eqb-zero-suc, eqb-suc-zero, eqb-suc-suc}
use lib.Arith.{lt-one}
use lib.Pow.{pow_pos, pow_mono, pow-lt, shr-shr, shr_lt, ones_lt, split}
use lib.Bits.{bit_and, bit_or, and_shr, or_shr, and_mod, or_mod, or_disjoint, or_lt, and_le_l, and_mask}
use lib.Count.{count_trailing_zeros, under}
use Rattle.basis.proofs.BoolLaws.{bool_ext, by_bool, not_both_ways, false_of, eqb_self, bar_cases, bar_left, bar_right, and_parts, and_not_left, not_both}
use Rattle.sets.specs.Members.{Taken}
use Rattle.sets.specs.Mask.{slots, mem, Has, Within, pick, insert, remove, full, above, Lowest}

-- ---- the lowest place, and the others

pub mem_zero : (s : ℕ) → mem s 0 ≡ eqb (s % 2) 1
unfolding mem
mem_zero s = ap (λ (x : ℕ). eqb (x % 2) 1) (div-one s)

pub mem_suc : (s e : ℕ) → mem s (suc e) ≡ mem (s / 2) e
unfolding mem
mem_suc s e = ap (λ (x : ℕ). eqb (x % 2) 1) (ap (λ (x : ℕ). s / 2 ^ x) (sym (one-add e)) ∙ sym (shr-shr s 1 e))

-- the set shifted down by k places
pub mem_above : (s k e : ℕ) → mem (s / 2 ^ k) e ≡ mem s (k + e)
unfolding mem
mem_above s k e = ap (λ (x : ℕ). eqb (x % 2) 1) (shr-shr s k e)

-- ---- union and intersection

bits_and : (p q : ℕ) → p < 2 → q < 2 → eqb (bit_and p q) 1 ≡ (eqb p 1 && eqb q 1)
bits_and zero q hp hq = refl
bits_and (suc zero) zero hp hq = refl
bits_and (suc zero) (suc zero) hp hq = refl
bits_and (suc zero) (suc (suc q)) hp hq = absurd (not-suc-le-zero (le_of_suc-le-suc (le_of_suc-le-suc hq)))
bits_and (suc (suc p)) q hp hq = absurd (not-suc-le-zero (le_of_suc-le-suc (le_of_suc-le-suc hp)))

bits_or : (p q : ℕ) → p < 2 → q < 2 → eqb (bit_or p q) 1 ≡ (eqb p 1 || eqb q 1)
bits_or zero q hp hq = refl
bits_or (suc zero) zero hp hq = refl
bits_or (suc zero) (suc zero) hp hq = refl
bits_or (suc zero) (suc (suc q)) hp hq = absurd (not-suc-le-zero (le_of_suc-le-suc (le_of_suc-le-suc hq)))
bits_or (suc (suc p)) q hp hq = absurd (not-suc-le-zero (le_of_suc-le-suc (le_of_suc-le-suc hp)))

two_pos : 0 < 2
two_pos = zero-lt-suc 1

pub mem_and : (a b e : ℕ) → mem (bit_and a b) e ≡ (mem a e && mem b e)
unfolding mem
mem_and a b e =
    ap (λ (x : ℕ). eqb (x % 2) 1) (and_shr a b e) ∙ ap (λ (x : ℕ). eqb x 1) (and_mod (a / 2 ^ e) (b / 2 ^ e) 1)
    ∙ bits_and (a / 2 ^ e % 2) (b / 2 ^ e % 2) (mod-lt (a / 2 ^ e) two_pos) (mod-lt (b / 2 ^ e) two_pos)

pub mem_or : (a b e : ℕ) → mem (bit_or a b) e ≡ (mem a e || mem b e)
unfolding mem
mem_or a b e =
    ap (λ (x : ℕ). eqb (x % 2) 1) (or_shr a b e) ∙ ap (λ (x : ℕ). eqb x 1) (or_mod (a / 2 ^ e) (b / 2 ^ e) 1)
    ∙ bits_or (a / 2 ^ e % 2) (b / 2 ^ e % 2) (mod-lt (a / 2 ^ e) two_pos) (mod-lt (b / 2 ^ e) two_pos)

-- ---- the empty set, and the set of one

pub mem_empty : (e : ℕ) → mem 0 e ≡ false
unfolding mem
mem_empty e = ap (λ (x : ℕ). eqb (x % 2) 1) (zero-div (2 ^ e))

pub mem_one : (k e : ℕ) → mem (2 ^ k) e ≡ eqb e k
mem_one zero zero = mem_zero 1
mem_one zero (suc e) = mem_suc 1 e ∙ mem_empty e ∙ sym (eqb-suc-zero e)
mem_one (suc k) zero = mem_zero (2 ^ suc k) ∙ ap (λ (x : ℕ). eqb (x % 2) 1) (pow-suc 2 k) ∙ ap (λ (x : ℕ). eqb x 1) (mul-mod_left (2 ^ k) 2) ∙ sym (eqb-zero-suc k)
mem_one (suc k) (suc e) =
    mem_suc (2 ^ suc k) e ∙ ap (λ (x : ℕ). mem (x / 2) e) (pow-suc 2 k) ∙ ap (λ (x : ℕ). mem x e) (mul-div_cancel (2 ^ k) two_pos)
    ∙ mem_one k e ∙ sym (eqb-suc-suc e k)

-- ---- places beyond the width

pub mem_beyond : (n s e : ℕ) → s < 2 ^ n → n ≤ e → mem s e ≡ false
unfolding mem
mem_beyond n s e h l = ap (λ (x : ℕ). eqb (x % 2) 1) (div-eq_of_lt (lt_of_lt_of_le h (pow_mono l)))

-- ---- the complement within w places

compl_half : (w s : ℕ) → s < 2 ^ suc w → ((2 ^ suc w - 1) - s) / 2 ≡ (2 ^ w - 1) - s / 2
compl_half w s h = omega (arith, pow-suc 2 w)

compl_odd : (w s : ℕ) → s < 2 ^ suc w → ((2 ^ suc w - 1) - s) % 2 ≡ 1 - s % 2
compl_odd w s h = omega (arith, pow-suc 2 w)

bit_not : (p : ℕ) → p < 2 → eqb (1 - p) 1 ≡ not (eqb p 1)
bit_not zero h = refl
bit_not (suc zero) h = refl
bit_not (suc (suc p)) h = absurd (not-suc-le-zero (le_of_suc-le-suc (le_of_suc-le-suc h)))

half_lt : {s : ℕ} (w : ℕ) → s < 2 ^ suc w → s / 2 < 2 ^ w
half_lt {s} w h = shr_lt w 1 (subst (λ (x : ℕ). s < 2 ^ x) (sym (add-one w)) h)

pub mem_compl : (w s e : ℕ) → s < 2 ^ w → e < w → mem ((2 ^ w - 1) - s) e ≡ not (mem s e)
mem_compl zero s e h l = absurd (not-suc-le-zero l)
mem_compl (suc w) s zero h l =
    mem_zero ((2 ^ suc w - 1) - s) ∙ ap (λ (x : ℕ). eqb x 1) (compl_odd w s h)
    ∙ bit_not (s % 2) (mod-lt s two_pos) ∙ ap not (sym (mem_zero s))
mem_compl (suc w) s (suc e) h l =
    mem_suc ((2 ^ suc w - 1) - s) e ∙ ap (λ (x : ℕ). mem x e) (compl_half w s h)
    ∙ mem_compl w (s / 2) e (half_lt w h) (le_of_suc-le-suc l) ∙ ap not (sym (mem_suc s e))

-- ---- two sets with the same members are one

eqb_bit : (p q : ℕ) → p < 2 → q < 2 → eqb p 1 ≡ eqb q 1 → p ≡ q
eqb_bit zero zero hp hq e = refl
eqb_bit zero (suc zero) hp hq e = cc
eqb_bit zero (suc (suc q)) hp hq e = absurd (not-suc-le-zero (le_of_suc-le-suc (le_of_suc-le-suc hq)))
eqb_bit (suc zero) zero hp hq e = cc
eqb_bit (suc zero) (suc zero) hp hq e = refl
eqb_bit (suc zero) (suc (suc q)) hp hq e = absurd (not-suc-le-zero (le_of_suc-le-suc (le_of_suc-le-suc hq)))
eqb_bit (suc (suc p)) q hp hq e = absurd (not-suc-le-zero (le_of_suc-le-suc (le_of_suc-le-suc hp)))

pub ext : (n a b : ℕ) → a < 2 ^ n → b < 2 ^ n → ((e : ℕ) → e < n → mem a e ≡ mem b e) → a ≡ b
ext zero a b ha hb f = lt-one ha ∙ sym (lt-one hb)
ext (suc n) a b ha hb f =
    let hi : a / 2 ≡ b / 2 = ext n (a / 2) (b / 2) (half_lt n ha) (half_lt n hb) (λ e l. sym (mem_suc a e) ∙ f (suc e) (suc-le-suc l) ∙ mem_suc b e) in
    let lo : a % 2 ≡ b % 2 = eqb_bit (a % 2) (b % 2) (mod-lt a two_pos) (mod-lt b two_pos) (sym (mem_zero a) ∙ f 0 (zero-lt-suc n) ∙ mem_zero b) in
    omega arith

-- ---- the same with no width: a number is below the power of itself

pub lt_pow_self : (k : ℕ) → k < 2 ^ k
lt_pow_self zero = zero-lt-suc zero
lt_pow_self (suc k) = lt_of_le_of_lt (lt_pow_self k) (pow-lt (lt-suc_self k))

lt_pow_above : (a n : ℕ) → a ≤ n → a < 2 ^ n
lt_pow_above a n h = lt_of_lt_of_le (lt_pow_self a) (pow_mono h)

pub ext_all : (a b : ℕ) → ((e : ℕ) → mem a e ≡ mem b e) → a ≡ b
ext_all a b f = ext (a + b) a b (lt_pow_above a (a + b) (omega arith)) (lt_pow_above b (a + b) (omega arith)) (λ e l. f e)

-- a member is below the width
pub mem_lt : (n s e : ℕ) → s < 2 ^ n → mem s e ≡ true → e < n
mem_lt n s e h m = go (dec_lt e n)
  where
    go : Dec (e < n) → e < n
    go (yes l) = l
    go (no f) = absurd (false≢true (sym (mem_beyond n s e h (omega arith)) ∙ m))

-- ---- s with e

or_one_in : (s e : ℕ) → mem s e ≡ true → bit_or s (2 ^ e) ≡ s
or_one_in s e h = ext_all (bit_or s (2 ^ e)) s (λ d. mem_or s (2 ^ e) d ∙ ap (λ (x : Bool). mem s d || x) (mem_one e d) ∙ go d (ℕ_discrete d e))
  where
    go : (d : ℕ) → Dec (d ≡ e) → (mem s d || eqb d e) ≡ mem s d
    go d (yes p) = rw (p, h) refl
    go d (no f) = rw (ne_eqb d e f) (or-false (mem s d))

and_one_out : (s e : ℕ) → mem s e ≡ false → bit_and s (2 ^ e) ≡ 0
and_one_out s e h = ext_all (bit_and s (2 ^ e)) 0 (λ d. mem_and s (2 ^ e) d ∙ ap (λ (x : Bool). mem s d && x) (mem_one e d) ∙ go d (ℕ_discrete d e) ∙ sym (mem_empty d))
  where
    go : (d : ℕ) → Dec (d ≡ e) → (mem s d && eqb d e) ≡ false
    go d (yes p) = rw (p, h) refl
    go d (no f) = rw (ne_eqb d e f) (and-false (mem s d))

pub insert_in : (s e : ℕ) → mem s e ≡ true → insert s e ≡ s
unfolding insert
insert_in s e h = ap (λ (x : Bool). pick x s (s + 2 ^ e)) h

pub insert_out : (s e : ℕ) → mem s e ≡ false → insert s e ≡ s + 2 ^ e
unfolding insert
insert_out s e h = ap (λ (x : Bool). pick x s (s + 2 ^ e)) h

pub or_one : (s e : ℕ) → bit_or s (2 ^ e) ≡ insert s e
or_one s e =
    by_bool (mem s e) (λ h. or_one_in s e h ∙ sym (insert_in s e h))
    (λ h. or_disjoint s (2 ^ e) (and_one_out s e h) ∙ sym (insert_out s e h))

pub mem_insert : (s e d : ℕ) → mem (insert s e) d ≡ (mem s d || eqb d e)
mem_insert s e d = ap (λ (x : ℕ). mem x d) (sym (or_one s e)) ∙ mem_or s (2 ^ e) d ∙ ap (λ (x : Bool). mem s d || x) (mem_one e d)

pub insert_lt : (n s e : ℕ) → s < 2 ^ n → e < n → insert s e < 2 ^ n
insert_lt n s e h l = subst (λ (x : ℕ). x < 2 ^ n) (or_one s e) (or_lt n s (2 ^ e) h (pow-lt l))

-- ---- the difference of two sets of w places, and s without e

pub mem_diff : (w a b e : ℕ) → a < 2 ^ w → b < 2 ^ w → mem (bit_and a ((2 ^ w - 1) - b)) e ≡ (mem a e && not (mem b e))
mem_diff w a b e ha hb = mem_and a ((2 ^ w - 1) - b) e ∙ go (dec_lt e w)
  where
    go : Dec (e < w) → (mem a e && mem ((2 ^ w - 1) - b) e) ≡ (mem a e && not (mem b e))
    go (yes l) = ap (λ (x : Bool). mem a e && x) (mem_compl w b e hb l)
    go (no f) = rw (mem_beyond w a e ha (omega arith)) refl

module _ (w s e : ℕ) (hs : s < 2 ^ w) (he : e < w) where
  pub mem_cut : (d : ℕ) → mem (bit_and s ((2 ^ w - 1) - 2 ^ e)) d ≡ (mem s d && not (eqb d e))
  mem_cut d = mem_diff w s (2 ^ e) d hs (pow-lt he) ∙ ap (λ (x : Bool). mem s d && not x) (mem_one e d)

  cut_out : mem s e ≡ false → bit_and s ((2 ^ w - 1) - 2 ^ e) ≡ s
  cut_out h = ext_all (bit_and s ((2 ^ w - 1) - 2 ^ e)) s (λ d. mem_cut d ∙ go d (ℕ_discrete d e))
    where
      go : (d : ℕ) → Dec (d ≡ e) → (mem s d && not (eqb d e)) ≡ mem s d
      go d (yes p) = rw (p, h) refl
      go d (no f) = rw (ne_eqb d e f) (and-true (mem s d))

  cut_in : mem s e ≡ true → bit_and s ((2 ^ w - 1) - 2 ^ e) ≡ s - 2 ^ e
  cut_in h =
      let x : ℕ = bit_and s ((2 ^ w - 1) - 2 ^ e) in
      let out : mem x e ≡ false = mem_cut e ∙ ap (λ (b : Bool). mem s e && not b) (eqb_self e) ∙ and-false (mem s e) in
      let back : insert x e ≡ s = ext_all (insert x e) s (λ d. mem_insert x e d ∙ ap (λ (b : Bool). b || eqb d e) (mem_cut d) ∙ go d (ℕ_discrete d e)) in
      omega (arith, insert_out x e out, back)
    where
      go : (d : ℕ) → Dec (d ≡ e) → ((mem s d && not (eqb d e)) || eqb d e) ≡ mem s d
      go d (yes p) = rw (p, h, eqb_self e) refl
      go d (no f) = rw (ne_eqb d e f) (or-false (mem s d && true) ∙ and-true (mem s d))

  pub and_not_one : bit_and s ((2 ^ w - 1) - 2 ^ e) ≡ remove s e
  unfolding remove
  and_not_one =
      by_bool (mem s e) (λ h. cut_in h ∙ sym (ap (λ (x : Bool). pick x (s - 2 ^ e) s) h)) (λ h. cut_out h ∙ sym (ap (λ (x : Bool). pick x (s - 2 ^ e) s) h))

pub mem_remove : (s e d : ℕ) → mem (remove s e) d ≡ (mem s d && not (eqb d e))
mem_remove s e d =
    let h : s < 2 ^ suc (s + e) = lt_pow_above s (suc (s + e)) (omega arith) in
    ap (λ (x : ℕ). mem x d) (sym (and_not_one (suc (s + e)) s e h (omega arith))) ∙ mem_cut (suc (s + e)) s e h (omega arith) d

pub remove_le : (s e : ℕ) → remove s e ≤ s
remove_le s e =
    let h : s < 2 ^ suc (s + e) = lt_pow_above s (suc (s + e)) (omega arith) in
    subst (λ (x : ℕ). x ≤ s) (and_not_one (suc (s + e)) s e h (omega arith)) (and_le_l s ((2 ^ suc (s + e) - 1) - 2 ^ e))

-- s with e and without it again
pub remove_insert : (s e : ℕ) → mem s e ≡ false → remove (insert s e) e ≡ s
remove_insert s e h = ext_all (remove (insert s e) e) s (λ d. mem_remove (insert s e) e d ∙ ap (λ (x : Bool). x && not (eqb d e)) (mem_insert s e d) ∙ go d (ℕ_discrete d e))
  where
    go : (d : ℕ) → Dec (d ≡ e) → ((mem s d || eqb d e) && not (eqb d e)) ≡ mem s d
    go d (yes p) = rw (p, h, eqb_self e) refl
    go d (no f) = rw (ne_eqb d e f) (and-true (mem s d || false) ∙ or-false (mem s d))

-- ---- subsets

pub within_of : (w a b : ℕ) → a < 2 ^ w → b < 2 ^ w → bit_and a ((2 ^ w - 1) - b) ≡ 0 → Within a b
within_of w a b ha hb z e =
    and_not_left (mem a e) (mem b e) (sym (mem_diff w a b e ha hb) ∙ ap (λ (x : ℕ). mem x e) z ∙ mem_empty e)

pub of_within : (w a b : ℕ) → a < 2 ^ w → b < 2 ^ w → Within a b → bit_and a ((2 ^ w - 1) - b) ≡ 0
of_within w a b ha hb f =
    ext_all (bit_and a ((2 ^ w - 1) - b)) 0 (λ e. mem_diff w a b e ha hb ∙ not_both (mem a e) (mem b e) (f e) ∙ sym (mem_empty e))

-- ---- the full set

pub mem_full : (n e : ℕ) → e < n → mem (full n) e ≡ true
mem_full n e h = ap (λ (x : ℕ). mem x e) (sym (sub-zero (2 ^ n - 1))) ∙ mem_compl n 0 e (pow_pos n) h ∙ ap not (mem_empty e)

pub full_of : (n s : ℕ) → s < 2 ^ n → ((e : ℕ) → e < n → mem s e ≡ true) → s ≡ full n
full_of n s h f = ext n s (full n) h (ones_lt n) (λ e l. f e l ∙ sym (mem_full n e l))

-- ---- the lowest member

pub lowest_in : (w s : ℕ) → 0 < s → s < 2 ^ w → mem s (count_trailing_zeros w s) ≡ true
unfolding count_trailing_zeros
lowest_in zero s p h = absurd (not-suc-le-zero (subst (λ (x : ℕ). 0 < x) (lt-one h) p))
lowest_in (suc w) s p h = go (s % 2) refl (λ q. lowest_in w (s / 2) q (half_lt w h))
  where
    go : (b : ℕ) → s % 2 ≡ b → (0 < s / 2 → mem (s / 2) (count_trailing_zeros w (s / 2)) ≡ true) → mem s (under b (count_trailing_zeros w (s / 2))) ≡ true
    go zero e f = mem_suc s (count_trailing_zeros w (s / 2)) ∙ f (omega arith)
    go (suc b) e f = let o : s % 2 ≡ 1 = omega arith in mem_zero s ∙ ap (λ (x : ℕ). eqb x 1) o

pub lowest_least : (w s d : ℕ) → d < count_trailing_zeros w s → mem s d ≡ false
unfolding count_trailing_zeros
lowest_least zero s d l = absurd (not-suc-le-zero l)
lowest_least (suc w) s d l = go (s % 2) refl d l (λ d' l'. lowest_least w (s / 2) d' l')
  where
    go : (b : ℕ) → s % 2 ≡ b → (d : ℕ) → d < under b (count_trailing_zeros w (s / 2)) → ((d' : ℕ) → d' < count_trailing_zeros w (s / 2) → mem (s / 2) d' ≡ false) → mem s d ≡ false
    go zero e zero l f = mem_zero s ∙ ap (λ (x : ℕ). eqb x 1) e
    go zero e (suc d) l f = mem_suc s d ∙ f d (le_of_suc-le-suc l)
    go (suc b) e d l f = absurd (not-suc-le-zero l)

-- an event below `slots` is its own place in a mask
pub at_slot : {A : Type 0} (f : ℕ → A) (e : ℕ) → e < slots → f (e % slots) ≡ f e
at_slot f e l = ap f (mod-eq_of_lt l)

-- ---- what the machine's shifts give

-- `1 << e` in w bits
pub one_shl : (w e : ℕ) → e < w → (1 * 2 ^ e) % 2 ^ w ≡ 2 ^ e
one_shl w e h = ap (λ (x : ℕ). x % 2 ^ w) (one-mul (2 ^ e)) ∙ mod-eq_of_lt (pow-lt h)

-- `s >> e & 1 == 1`
pub shr_and_one : (s e : ℕ) → eqb (bit_and (s / 2 ^ e) 1) 1 ≡ mem s e
unfolding mem
shr_and_one s e = ap (λ (x : ℕ). eqb x 1) (and_mask (s / 2 ^ e) 1)

-- ---- the k lowest places of a set, as where the k first events are always members

pub mem_mod : (s k e : ℕ) → e < k → mem (s % 2 ^ k) e ≡ mem s e
mem_mod s k e l =
    ap (λ (x : ℕ). mem x e) (sym (and_mask s k)) ∙ mem_and s (full k) e ∙ ap (λ (x : Bool). mem s e && x) (mem_full k e l) ∙ and-true (mem s e)

pub low_full : (k s : ℕ) → ((e : ℕ) → e < k → mem s e ≡ true) → s % 2 ^ k ≡ full k
low_full k s f = full_of k (s % 2 ^ k) (mod-lt s (pow_pos k)) (λ e l. mem_mod s k e l ∙ f e l)

-- such a set is known by its places from k up
pub above_inj : (k s r : ℕ) → ((e : ℕ) → e < k → mem s e ≡ true) → ((e : ℕ) → e < k → mem r e ≡ true) → s / 2 ^ k ≡ r / 2 ^ k → s ≡ r
above_inj k s r f g q = sym (split s k) ∙ ap₂ (λ (x y : ℕ). x * 2 ^ k + y) q (low_full k s f ∙ sym (low_full k r g)) ∙ split r k

-- ---- without a member a set is a smaller number: a loop over the members ends

pub member_le : (s e : ℕ) → mem s e ≡ true → 2 ^ e ≤ s
member_le s e h = go (dec_le (2 ^ e) s)
  where
    go : Dec (2 ^ e ≤ s) → 2 ^ e ≤ s
    go (yes l) = l
    go (no f) = absurd (lt_irrefl e (mem_lt e s e (omega arith) h))

pub remove_lt : (s e : ℕ) → mem s e ≡ true → remove s e < s
unfolding remove
remove_lt s e h =
    let low : 2 ^ e ≤ s = member_le s e h in
    subst (λ (x : Bool). pick x (s - 2 ^ e) s < s) (sym h) (omega (arith, pow_pos e))

pub within_antisym : (a b : ℕ) → Within a b → Within b a → a ≡ b
within_antisym a b f g = ext_all a b (λ e. bool_ext (mem a e) (mem b e) (f e) (g e))

-- ---- a member more, as facts

pub insert_new : (s e : ℕ) → Has (insert s e) e
insert_new s e = mem_insert s e e ∙ bar_right (mem s e) (eqb e e) (eqb_self e)

pub insert_old : (s e d : ℕ) → Has s d → Has (insert s e) d
insert_old s e d h = mem_insert s e d ∙ bar_left (mem s d) (eqb d e) h

pub insert_cases : (s e d : ℕ) → Has (insert s e) d → (d ≡ e) ⊎ Has s d
insert_cases s e d h = ⊎_elim inr (λ q. inl (eqb-true d e q)) (bar_cases (mem s d) (eqb d e) (sym (mem_insert s e d) ∙ h))

pub remove_old : (s e d : ℕ) → Has (remove s e) d → Has s d
remove_old s e d h = (and_parts (mem s d) (not (eqb d e)) (sym (mem_remove s e d) ∙ h)).0

pub remove_cases : (s e d : ℕ) → Has s d → (d ≡ e) ⊎ Has (remove s e) d
remove_cases s e d h = go (ℕ_discrete d e)
  where
    go : Dec (d ≡ e) → (d ≡ e) ⊎ Has (remove s e) d
    go (yes p) = inl p
    go (no f) = inr (mem_remove s e d ∙ ap₂ (λ (x y : Bool). x && not y) h (ne_eqb d e f))

-- a set with a new member is a larger number
pub insert_gt : (s e : ℕ) → mem s e ≡ false → s < insert s e
insert_gt s e h = let q = insert_out s e h in omega (arith, pow_pos e)

pub insert_ge : (s e : ℕ) → s ≤ insert s e
insert_ge s e = by_bool (mem s e) (λ h. let q = insert_in s e h in omega arith) (λ h. let q = insert_gt s e h in omega arith)

pub full_has : (n e : ℕ) → Has (full n) e → e < n
full_has n e = mem_lt n (full n) e (ones_lt n)

-- a set whose members are below n
pub lt_of_members : (n s : ℕ) → ((e : ℕ) → Has s e → e < n) → s < 2 ^ n
lt_of_members n s f = subst (λ (x : ℕ). x < 2 ^ n) (ext_all (s % 2 ^ n) s (λ e. go e (dec_lt e n))) (mod-lt s (pow_pos n))
  where
    go : (e : ℕ) → Dec (e < n) → mem (s % 2 ^ n) e ≡ mem s e
    go e (yes l) = mem_mod s n e l
    go e (no g) = mem_beyond n (s % 2 ^ n) e (mod-lt s (pow_pos n)) (omega arith) ∙ sym (false_of (mem s e) (λ h. g (f e h)))

-- ---- the members from k up

pub above_lt : (k m t : ℕ) → k ≤ m → t < 2 ^ m → above t k < 2 ^ (m - k)
above_lt k m t h l = shr_lt (m - k) k (subst (λ (x : ℕ). t < 2 ^ x) (omega arith) l)

-- ---- the lowest member is one number

pub lowest_none : (w : ℕ) → count_trailing_zeros w 0 ≡ w
unfolding count_trailing_zeros
lowest_none zero = refl
lowest_none (suc w) = ap suc (lowest_none w)

pub lowest_le : (w s : ℕ) → count_trailing_zeros w s ≤ w
unfolding count_trailing_zeros
lowest_le zero s = zero-le
lowest_le (suc w) s = go (s % 2) (lowest_le w (s / 2))
  where
    go : (b : ℕ) → count_trailing_zeros w (s / 2) ≤ w → under b (count_trailing_zeros w (s / 2)) ≤ suc w
    go zero h = suc-le-suc h
    go (suc b) h = zero-le

pub lowest_unique : (s p q : ℕ) → Lowest s p → Lowest s q → p ≡ q
lowest_unique zero p q a b = a.none refl ∙ sym (b.none refl)
lowest_unique (suc s) p q a b = go (dec_lt p q) (dec_lt q p)
  where
    go : Dec (p < q) → Dec (q < p) → p ≡ q
    go (yes l) r = absurd (not_both_ways (a.member (omega arith)) (b.least p l))
    go (no f) (yes l) = absurd (not_both_ways (b.member (omega arith)) (a.least q l))
    go (no f) (no g) = omega arith

-- what is taken first of a set, and what is left
pub taken : (s e t : ℕ) → s < 2 ^ slots → (s ≡ 0 → ⊥) → Lowest s e → t ≡ remove s (e % slots) → Taken s e t
taken s e t w some low h =
    let m = low.member (omega (arith, some)) in
    let l = mem_lt slots s e w m in
    record { some = some; low = low; member = m; slot = l; rest = h ∙ at_slot (remove s) e l }

pub taken_less : {s e t : ℕ} → Taken s e t → t < s
taken_less {s = s} {e = e} {t = t} k = let l = remove_lt s e k.member in let h = k.rest in omega arith
