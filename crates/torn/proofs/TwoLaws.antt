-- The two lowest members of a set, as the machine takes them. Assumes nothing.
--     Two, two_found, two_none     two members with none between and none below; where the second is missing, there are not two
--     two_parts                    a pair as one number, taken apart
--     two_first, two_last          the two lowest as one number, the first that passes `two_in`
use Rattle.std.proofs.Common.{◌≡◌, ℕ, ◌+◌, ◌*◌, ◌/◌, ◌%◌, ◌^◌, ◌<◌, ◌≤◌, true, false, eqb, ltb, sym, ap, ◌∙◌, subst, ⊎_elim, mod-eq_of_lt, arith, ltb-true, lt-ltb}
use native.Mathlib.Decide.{ℕ_discrete, dec_lt}
use Rattle.basis.proofs.BoolLaws.{and_holds, and_both, not_both_ways, false_of, not_both, eqb_self}
use Rattle.sets.specs.Mask.{slots, mem, Has, remove, Lowest}
use Rattle.sets.proofs.MaskLaws.{mem_remove, mem_empty, mem_lt, remove_le, remove_old, remove_cases}
use Rattle.std.specs.Prelude.{Some, None}
use Rattle.cells.specs.First.{first_some}
use Rattle.cells.proofs.FirstLaws.{some_here, some_none}
use Rattle.torn.specs.Torn.{two_in, pairs}

pub record Two (m w v : ℕ) : Type 0 where
  pub rising : w < v
  pub first : Has m w
  pub second : Has m v
  pub low : (d : ℕ) → d < w → mem m d ≡ false
  pub next : (d : ℕ) → w < d → d < v → mem m d ≡ false

-- a pair as one number, taken apart
pub two_parts : (m p : ℕ) → two_in m p ≡ true → (p / slots < p % slots) × (Has m (p / slots) × Has m (p % slots))
unfolding two_in
two_parts m p h =
    let a = and_both (ltb (p / slots) (p % slots)) _ h in
    let b = and_both (mem m (p / slots)) (mem m (p % slots)) a.1 in
    (ltb-true (p / slots) (p % slots) a.0, (b.0, b.1))

module _ (m w v : ℕ) (width : m < 2 ^ slots) (lw : Lowest m w) (lv : Lowest (remove m (w % slots)) v) where
  rest_some : v < slots → Has (remove m (w % slots)) v
  rest_some h = go (ℕ_discrete (remove m (w % slots)) 0)
    where
      go : Dec (remove m (w % slots) ≡ 0) → Has (remove m (w % slots)) v
      go (yes e) = absurd (omega (arith, lv.none e))
      go (no f) = lv.member (omega (arith, f))

  some_of : (d : ℕ) → Has m d → 0 < m
  some_of d h = go (ℕ_discrete m 0)
    where
      go : Dec (m ≡ 0) → 0 < m
      go (yes e) = absurd (not_both_ways h (ap (λ (i : ℕ). mem i d) e ∙ mem_empty d))
      go (no f) = omega (arith, f)

  pub two_found : v < slots → Two m w v
  two_found h =
      let rest = rest_some h in
      let hv = remove_old m (w % slots) v rest in
      let hw = lw.member (some_of v hv) in
      let l = mem_lt slots m w width hw in
      let k : w % slots ≡ w = mod-eq_of_lt l in
      let rest' : Has (remove m w) v = subst (λ (i : ℕ). Has (remove m i) v) k rest in
      let up : w < v = above rest' hv in
      record {
        rising = up;
        first = hw;
        second = hv;
        low = lw.least;
        next = λ d a b. false_of (mem m d) (λ y. ⊎_elim (λ c. absurd (omega (arith, c))) (λ c. not_both_ways c (ap (λ (i : ℕ). mem (remove m i) d) (sym k) ∙ lv.least d b)) (remove_cases m w d y));
      }
    where
      apart : Has (remove m w) v → v ≡ w → ⊥
      apart r c =
          not_both_ways r
          (ap (mem (remove m w)) c ∙ mem_remove m w w ∙ not_both (mem m w) (eqb w w) (λ h. eqb_self w))

      above : Has (remove m w) v → Has m v → w < v
      above r c = up (apart r) (λ a. not_both_ways c (lw.least v a))
        where
          up : (v ≡ w → ⊥) → (v < w → ⊥) → w < v
          up f g = omega (arith, f, g)

  pub two_none : slots ≤ v → (a b : ℕ) → a < b → Has m a → Has m b → ⊥
  two_none h a b l x y = go (ℕ_discrete (remove m (w % slots)) 0)
    where
      at : remove m (w % slots) ≡ 0 → (d : ℕ) → Has m d → d ≡ w % slots
      at e d k = ⊎_elim (λ c. c) (λ c. absurd (not_both_ways c (ap (λ (i : ℕ). mem i d) e ∙ mem_empty d))) (remove_cases m (w % slots) d k)

      go : Dec (remove m (w % slots) ≡ 0) → ⊥
      go (yes e) = let p = at e a x in let q = at e b y in omega arith
      go (no f) =
          let r = remove_le m (w % slots) in
          omega (arith, mem_lt slots (remove m (w % slots)) v (omega arith) (lv.member (omega (arith, f))))

  pub two_first : v < slots → Some (w * slots + v) ≡ first_some (two_in m) pairs
  unfolding two_in
  two_first h =
      let t = two_found h in
      let up = t.rising in
      let i : (w * slots + v) / slots ≡ w = omega arith in
      let j : (w * slots + v) % slots ≡ v = omega arith in
      some_here (two_in m) pairs (w * slots + v) (omega arith) (λ d z. false_of (two_in m d) (λ y. lower t d z (two_parts m d y)))
      (and_holds (ltb ((w * slots + v) / slots) ((w * slots + v) % slots)) _ (lt-ltb ((w * slots + v) / slots) ((w * slots + v) % slots) (omega arith))
      ∙ and_holds (mem m ((w * slots + v) / slots)) _ (ap (mem m) i ∙ t.first) ∙ ap (mem m) j ∙ t.second)
    where
      lower : Two m w v → (d : ℕ) → d < w * slots + v → (d / slots < d % slots) × (Has m (d / slots) × Has m (d % slots)) → ⊥
      lower t d z y = go (dec_lt (d / slots) w)
        where
          go : Dec (d / slots < w) → ⊥
          go (yes k) = not_both_ways y.1.0 (t.low (d / slots) k)
          go (no k) =
              let q : d / slots ≡ w = omega (arith, k) in
              not_both_ways y.1.1 (t.next (d % slots) (omega (arith, y.0)) (omega arith))

  pub two_last : slots ≤ v → None ≡ first_some (two_in m) pairs
  two_last h = some_none (two_in m) pairs (λ d z. false_of (two_in m d) (λ y. let t = two_parts m d y in two_none h (d / slots) (d % slots) t.0 t.1.0 t.1.1))
