-- The laws of specs/steps/Keys.antt. Assumes nothing.
--     key_sc, key_not                        the key of an sc access, of another one
--     keys_none, keys_more, keys_length      the keys, slot by slot
--     key_equal, key_same                    two keys are equal where the ranges are
--     gained                                 what is gained by keys is what is gained by ranges
use mathlib.Core.Path.{◌≡◌, refl, sym, ap, ap₂, ◌∙◌, subst}
use mathlib.Core.Bool.{Bool, true, false, cond}
use mathlib.Core.List.{List}
use Prim.Native.Nat.{ℕ, zero, suc, ◌+◌, ◌*◌, ◌≤◌, ◌<◌}
use native.Mathlib.Omega.{arith}
use native.Mathlib.Decide.{ℕ_discrete}
use borrow.Author.Tests.{eq-eqb, ne_eqb, eqb-true, ltb-true, ltb-false}
use lib.Dec.{eqb, ltb}
use lib.ListN.{length, get_or, set, replicate, length-replicate, get_or-replicate}
use Rattle.basis.specs.Test.{◌and◌}
use Rattle.basis.proofs.BoolLaws.{and_holds, and_fails, and_both, both_hold, by_bool, bool_ext}
use Rattle.format.specs.declared.Shape.{Shape}
use Rattle.format.specs.Shape.{sc, equal}
use Rattle.sets.specs.Mask.{slots, insert}
use Rattle.cells.specs.Walk.{up_to}
use Rattle.cells.specs.Cells.{placing, put_at}
use Rattle.cells.proofs.CellsLaws.{placing_none, placing_more, placing_length, placing_at, placing_beyond}
use Rattle.tables.specs.Tables.{accesses, shape_in}
use Rattle.alike.specs.Ranges.{sc_writes, as_in, match, span_of, matched_in}
use Rattle.alike.specs.steps.Keys.{key_of, Keyed, key_in, KeysIn}

-- two ways to fill places that agree below n
placing_same : (f g : ℕ → ℕ) (n : ℕ) (l : List ℕ) → ((k : ℕ) → k < n → f k ≡ g k) → placing f n l ≡ placing g n l
unfolding placing up_to
placing_same f g zero l h = refl
placing_same f g (suc n) l h =
    ap (λ (x : ℕ). set (up_to (put_at f) n l) n x) (h n (omega arith)) ∙ ap (λ (y : List ℕ). set y n (g n)) (placing_same f g n l (λ k q. h k (omega arith)))

module _ (a : Shape) where
  pub key_sc : sc a ≡ true → a.start * 256 + a.width + 1 ≡ key_of a
  unfolding key_of
  key_sc e = sym (ap (λ (b : Bool). cond b (a.start * 256 + a.width + 1) 0) e)

  pub key_not : sc a ≡ false → 0 ≡ key_of a
  unfolding key_of
  key_not e = sym (ap (λ (b : Bool). cond b (a.start * 256 + a.width + 1) 0) e)

pub keys_none : (t l : List ℕ) → KeysIn t 0 l l
keys_none t l = record { is = placing_none (key_in t) l; narrow = λ k h. absurd (omega arith) }

module _ {t : List ℕ} {k : ℕ} {l₀ l : List ℕ} (g : KeysIn t k l₀ l) where
  pub keys_more : {r : ℕ} {y : List ℕ} → Keyed (shape_in t k) r → y ≡ set l k r → KeysIn t (k + 1) l₀ y
  keys_more {r} {y} a e =
      record {
        is = e ∙ ap (set l k) a.is ∙ ap (λ (x : List ℕ). set x k (key_in t k)) g.is ∙ placing_more (key_in t) l₀ k;
        narrow = λ d h. go d h (ℕ_discrete d k);
      }
    where
      go : (d : ℕ) → d < k + 1 → Dec (d ≡ k) → (shape_in t d).width < 256
      go d h (yes z) = subst (λ (i : ℕ). (shape_in t i).width < 256) (sym z) a.byte
      go d h (no z) = g.narrow d (omega (arith, z))

  pub keys_length : length l ≡ length l₀
  keys_length = ap length g.is ∙ placing_length (key_in t) l₀ k

-- ---- two keys

-- the key of an sc access is that of another access where this is sc too, with the same range
pub key_equal : (a b : Shape) → a.width < 256 → b.width < 256 → sc a ≡ true → eqb (key_of b) (key_of a) ≡ (sc b and equal a b)
unfolding equal
key_equal a b x y h = by_bool (sc b) yes_sc no_sc
  where
    yes_sc : sc b ≡ true → eqb (key_of b) (key_of a) ≡ (sc b and equal a b)
    yes_sc g =
        bool_ext _ _
        (λ e.
        let q = eqb-true (key_of b) (key_of a) e in
        let m = key_sc a h in
        let n = key_sc b g in
        let s : a.start ≡ b.start = omega arith in
        let w : a.width ≡ b.width = omega arith in
        and_holds (sc b) _ g ∙ both_hold _ _ (eq-eqb a.start b.start s) (eq-eqb a.width b.width w))
        (λ e.
        let p = and_both (eqb a.start b.start) _ (and_both (sc b) _ e).1 in
        let s = eqb-true a.start b.start p.0 in
        let w = eqb-true a.width b.width p.1 in
        let m = key_sc a h in
        let n = key_sc b g in
        eq-eqb (key_of b) (key_of a) (omega arith))

    no_sc : sc b ≡ false → eqb (key_of b) (key_of a) ≡ (sc b and equal a b)
    no_sc g = let m = key_sc a h in let n = key_not b g in ne_eqb (key_of b) (key_of a) (λ q. omega arith) ∙ sym (and_fails (sc b) _ g)

module _ {t keys : List ℕ} {n : ℕ} (few : n ≤ slots) (g : KeysIn t (2 * n) (replicate accesses 0) keys) where
  key_at : (k : ℕ) → k < 2 * n → get_or keys k 0 ≡ key_in t k
  key_at k h =
      let long = length-replicate {A = ℕ} accesses 0 in
      ap (λ (l : List ℕ). get_or l k 0) g.is ∙ placing_at (key_in t) (replicate accesses 0) (2 * n) k h (omega arith)

  key_beyond : (k : ℕ) → 2 * n ≤ k → k < accesses → get_or keys k 0 ≡ 0
  key_beyond k h l =
      ap (λ (l : List ℕ). get_or l k 0) g.is ∙ placing_beyond (key_in t) (replicate accesses 0) (2 * n) k h ∙ get_or-replicate accesses k 0 0 l

  pub key_same : (j : ℕ) → j < 2 * n → sc (shape_in t j) ≡ true → (k : ℕ) → k < accesses → eqb (get_or keys k 0) (get_or keys j 0) ≡ as_in t n j k
  unfolding as_in
  key_same j h s k l =
      by_bool (ltb k (2 * n))
      (λ e.
      let i = ltb-true k (2 * n) e in
      ap₂ eqb (key_at k i) (key_at j h) ∙ key_equal (shape_in t j) (shape_in t k) (g.narrow j h) (g.narrow k i) s ∙ sym (and_holds (ltb k (2 * n)) _ e))
      (λ e.
      let i = key_beyond k (ltb-false k (2 * n) e) l in
      let m = key_at j h in
      let o = key_sc (shape_in t j) s in
      ne_eqb (get_or keys k 0) (get_or keys j 0) (λ q. omega arith) ∙ sym (and_fails (ltb k (2 * n)) _ e))

  -- what a turn of `side` gains
  pub gained : (b v : ℕ) → b < 2 → v < n → sc_writes t (2 * v + b) ≡ true → (l : List ℕ)
      → placing (match (λ (k : ℕ). eqb (get_or keys k 0) (get_or keys (2 * v + b) 0)) v l) (span_of n l) l ≡ matched_in t n b v l
  unfolding matched_in sc_writes
  gained b v h i w l =
      placing_same _ _ (span_of n l) l
      (λ k q. ap (λ (c : Bool). cond c (insert (get_or l k 0) v) (get_or l k 0)) (key_same (2 * v + b) (omega arith) (and_both (sc (shape_in t (2 * v + b))) _ w).0 k (omega arith)))
