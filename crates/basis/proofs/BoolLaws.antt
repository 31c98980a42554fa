-- The bridge between a Boolean's forms: the code's `&&`, `||`, `not`; our `and`, `or`, `non`, which are shut; `b ≡ true`, `b ≡ false`; and `T b`.
-- Assumes nothing.
--     by_bool, bool_ext, not_both_ways, false_of     a Boolean by cases, each case with its equation
--     true_T, T_true, false_T, T_false               a test as an equation and as a fact
--     amp_and, bar_or, not_non                       the code's operators are ours
-- as equations:
--     and_holds, and_fails, or_holds, or_fails       a test that is known, on the left
--     and_true, and_false, or_none                   and on the right
--     and_swap, and_assoc, or_assoc
--     and_both, or_either, cond_cases, cond_and      a test that passed, taken apart; a choice in a choice
--     both_hold, or_second                           and put together
--     non_true, non_false, non_holds, non_fails
--     and_parts, and_not_left, not_both              of `&&`           bar_cases, bar_left, bar_right     of `||`
-- as facts:
--     and_elim, and_intro, or_cases, or_left, or_right, or_sym, non_elim, non_intro, decide, cond_true, cond_false, same_test
-- of numbers:
--     eqb_self, eqb_swap, below_next                 a number and itself; two numbers turned round; one number more below a bound
use mathlib.Core.Path.{◌≡◌, refl, sym, ap, ◌∙◌}
use mathlib.Core.Bool.{Bool, true, false, not, ◌&&◌, ◌||◌, cond, false≢true}
use mathlib.Core.Logic.{◌⊎◌, inl, inr, ⊎_elim}
use Prim.Native.Nat.{ℕ, suc, ◌<◌}
use native.Mathlib.Omega.{arith}
use native.Mathlib.Decide.{ℕ_discrete, dec_lt}
use borrow.Author.Tests.{eq-eqb, ne_eqb, lt-ltb, le-ltb}
use lib.Dec.{T, eqb, ltb}
use Rattle.basis.specs.Test.{◌and◌, ◌or◌, non}

-- ---- by cases

pub by_bool : {P : Type 0} (b : Bool) → (b ≡ true → P) → (b ≡ false → P) → P
by_bool true f g = f refl
by_bool false f g = g refl

pub bool_ext : (a b : Bool) → (a ≡ true → b ≡ true) → (b ≡ true → a ≡ true) → a ≡ b
bool_ext true b f g = sym (f refl)
bool_ext false true f g = g refl
bool_ext false false f g = refl

-- true and false are apart
pub not_both_ways : {b : Bool} → b ≡ true → b ≡ false → ⊥
not_both_ways p q = false≢true (sym q ∙ p)

pub false_of : (b : Bool) → (b ≡ true → ⊥) → b ≡ false
false_of true f = absurd (f refl)
false_of false f = refl

-- ---- a test as an equation and as a fact

pub true_T : (b : Bool) → b ≡ true → T b
true_T true e = tt
true_T false e = absurd (false≢true e)

pub T_true : (b : Bool) → T b → b ≡ true
T_true true t = refl
T_true false t = absurd t

pub false_T : (b : Bool) → b ≡ false → T b → ⊥
false_T b e t = not_both_ways (T_true b t) e

pub T_false : (b : Bool) → (T b → ⊥) → b ≡ false
T_false b h = false_of b (λ e. h (true_T b e))

-- ---- the code's operators

pub amp_and : (a b : Bool) → (a && b) ≡ (a and b)
unfolding ◌and◌
amp_and true b = refl
amp_and false b = refl

pub bar_or : (a b : Bool) → (a || b) ≡ (a or b)
unfolding ◌or◌
bar_or true b = refl
bar_or false b = refl

pub not_non : (a : Bool) → not a ≡ non a
unfolding non
not_non true = refl
not_non false = refl

-- ---- equations: a test that is known, on the left

pub and_holds : (a b : Bool) → a ≡ true → (a and b) ≡ b
unfolding ◌and◌
and_holds a b h = ap (λ (x : Bool). x and b) h

pub and_fails : (a b : Bool) → a ≡ false → (a and b) ≡ false
unfolding ◌and◌
and_fails a b h = ap (λ (x : Bool). x and b) h

pub or_holds : (a b : Bool) → a ≡ true → (a or b) ≡ true
unfolding ◌or◌
or_holds a b h = ap (λ (x : Bool). x or b) h

pub or_fails : (a b : Bool) → a ≡ false → (a or b) ≡ b
unfolding ◌or◌
or_fails a b h = ap (λ (x : Bool). x or b) h

-- and on the right
pub and_true : (a : Bool) → (a and true) ≡ a
unfolding ◌and◌
and_true true = refl
and_true false = refl

pub and_false : (a : Bool) → (a and false) ≡ false
unfolding ◌and◌
and_false true = refl
and_false false = refl

pub or_none : (b : Bool) → (b or false) ≡ b
unfolding ◌or◌
or_none true = refl
or_none false = refl

pub and_swap : (a b : Bool) → (a and b) ≡ (b and a)
unfolding ◌and◌
and_swap true b = sym (and_true b)
and_swap false b = sym (and_false b)

pub and_assoc : (a b c : Bool) → ((a and b) and c) ≡ (a and (b and c))
unfolding ◌and◌
and_assoc true b c = refl
and_assoc false b c = refl

pub or_assoc : (a b c : Bool) → ((a or b) or c) ≡ (a or b or c)
unfolding ◌or◌
or_assoc true b c = refl
or_assoc false b c = refl

-- a test that passed, taken apart
pub and_both : (a b : Bool) → (a and b) ≡ true → (a ≡ true) × (b ≡ true)
unfolding ◌and◌
and_both true b h = (refl, h)
and_both false b h = absurd (false≢true h)

pub or_either : (a b : Bool) → (a or b) ≡ true → (a ≡ true) ⊎ (b ≡ true)
unfolding ◌or◌
or_either true b h = inl refl
or_either false b h = inr h

pub cond_cases : (b x y : Bool) → cond b x y ≡ true → ((b ≡ true) × (x ≡ true)) ⊎ ((b ≡ false) × (y ≡ true))
cond_cases true x y h = inl (refl, h)
cond_cases false x y h = inr (refl, h)

pub cond_and : {A : Type 0} (x y : Bool) (a b : A) → cond x (cond y a b) b ≡ cond (x and y) a b
unfolding ◌and◌
cond_and true y a b = refl
cond_and false y a b = refl

-- and put together
pub both_hold : (a b : Bool) → a ≡ true → b ≡ true → (a and b) ≡ true
both_hold a b p q = and_holds a b p ∙ q

pub or_second : (a b : Bool) → b ≡ true → (a or b) ≡ true
unfolding ◌or◌
or_second true b h = refl
or_second false b h = h

pub non_true : (b : Bool) → non b ≡ true → b ≡ false
unfolding non
non_true true e = sym e
non_true false e = refl

pub non_false : (b : Bool) → non b ≡ false → b ≡ true
unfolding non
non_false true e = refl
non_false false e = sym e

pub non_holds : (b : Bool) → b ≡ false → non b ≡ true
unfolding non
non_holds b h = ap non h

pub non_fails : (b : Bool) → b ≡ true → non b ≡ false
unfolding non
non_fails b h = ap non h

-- the same of the code's operators
pub and_parts : (a b : Bool) → (a && b) ≡ true → (a ≡ true) × (b ≡ true)
and_parts a b h = and_both a b (sym (amp_and a b) ∙ h)

pub bar_cases : (a b : Bool) → (a || b) ≡ true → (a ≡ true) ⊎ (b ≡ true)
bar_cases a b h = or_either a b (sym (bar_or a b) ∙ h)

pub bar_left : (a b : Bool) → a ≡ true → (a || b) ≡ true
bar_left a b h = bar_or a b ∙ or_holds a b h

pub bar_right : (a b : Bool) → b ≡ true → (a || b) ≡ true
bar_right a b h = bar_or a b ∙ or_second a b h

pub and_not_left : (a b : Bool) → (a && not b) ≡ false → a ≡ true → b ≡ true
and_not_left true true h p = refl
and_not_left true false h p = sym h
and_not_left false b h p = absurd (false≢true p)

pub not_both : (a b : Bool) → (a ≡ true → b ≡ true) → (a && not b) ≡ false
not_both true b f = ap not (f refl)
not_both false b f = refl

-- ---- facts

pub and_elim : (a b : Bool) → T (a and b) → T a × T b
and_elim a b t = let w = and_both a b (T_true _ t) in (true_T a w.0, true_T b w.1)

pub and_intro : (a b : Bool) → T a → T b → T (a and b)
and_intro a b s t = true_T _ (both_hold a b (T_true a s) (T_true b t))

pub or_cases : (a b : Bool) → T (a or b) → T a ⊎ T b
unfolding ◌or◌
or_cases true b t = inl tt
or_cases false b t = inr t

pub or_left : (a b : Bool) → T a → T (a or b)
or_left a b t = true_T _ (or_holds a b (T_true a t))

pub or_right : (a b : Bool) → T b → T (a or b)
or_right a b t = true_T _ (or_second a b (T_true b t))

pub or_sym : (a b : Bool) → T (a or b) → T (b or a)
or_sym a b t = ⊎_elim (or_right b a) (or_left b a) (or_cases a b t)

pub non_elim : (a : Bool) → T (non a) → T a → ⊥
non_elim a s = false_T a (non_true a (T_true _ s))

pub non_intro : (a : Bool) → (T a → ⊥) → T (non a)
non_intro a f = true_T _ (non_holds a (T_false a f))

pub decide : (b : Bool) → T b ⊎ (T b → ⊥)
decide true = inl tt
decide false = inr (λ t. t)

pub cond_true : {A : Type 0} (b : Bool) (m n : A) → T b → cond b m n ≡ m
cond_true true m n t = refl
cond_true false m n t = absurd t

pub cond_false : {A : Type 0} (b : Bool) (m n : A) → (T b → ⊥) → cond b m n ≡ n
cond_false true m n t = absurd (t tt)
cond_false false m n t = refl

-- two tests that pass together are one
pub same_test : (a b : Bool) → (T a → T b) → (T b → T a) → a ≡ b
same_test a b f g = bool_ext a b (λ e. T_true b (f (true_T a e))) (λ e. T_true a (g (true_T b e)))

-- ---- numbers

pub eqb_self : (d : ℕ) → eqb d d ≡ true
eqb_self d = eq-eqb d d refl

pub eqb_swap : (a b : ℕ) → eqb a b ≡ eqb b a
eqb_swap a b = go (ℕ_discrete a b)
  where
    go : Dec (a ≡ b) → eqb a b ≡ eqb b a
    go (yes e) = eq-eqb a b e ∙ sym (eq-eqb b a (sym e))
    go (no e) = ne_eqb a b e ∙ sym (ne_eqb b a (λ q. e (sym q)))

-- the numbers below a bound, one more at a time
pub below_next : (X : ℕ → Bool) (k e : ℕ) → ((ltb e k and X e) or (X k and eqb k e)) ≡ (ltb e (suc k) and X e)
unfolding ◌or◌
below_next X k e = go (ℕ_discrete k e)
  where
    go : Dec (k ≡ e) → ((ltb e k and X e) or (X k and eqb k e)) ≡ (ltb e (suc k) and X e)
    go (yes z) =
        ap (λ (b : Bool). b or (X k and eqb k e)) (and_fails (ltb e k) (X e) (le-ltb e k (omega arith)))
        ∙ ap (λ (b : Bool). X k and b) (eq-eqb k e z) ∙ and_true (X k) ∙ ap X z
        ∙ sym (and_holds (ltb e (suc k)) (X e) (lt-ltb e (suc k) (omega arith)))
    go (no z) =
        ap (λ (b : Bool). (ltb e k and X e) or (X k and b)) (ne_eqb k e z)
        ∙ ap (λ (b : Bool). (ltb e k and X e) or b) (and_false (X k))
        ∙ or_none (ltb e k and X e)
        ∙ ap (λ (b : Bool). b and X e) (same (dec_lt e k))
      where
        same : Dec (e < k) → ltb e k ≡ ltb e (suc k)
        same (yes i) = lt-ltb e k i ∙ sym (lt-ltb e (suc k) (omega arith))
        same (no i) = le-ltb e k (omega (arith, i)) ∙ sym (le-ltb e (suc k) (omega (arith, i, z)))
