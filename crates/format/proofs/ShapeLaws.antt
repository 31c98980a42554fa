-- The laws of specs/Shape.antt: ranges, and accesses that are both sc. Assumes nothing.
--     overlap_sym, equal_sym, equal_trans, equal_self     of ranges               covers_equal     equal ranges cover the same bytes
--     both_cover                                          two ranges with a byte in common overlap
--     BothSc, both_elim, both_intro, both_sym             both sc with equal ranges
use mathlib.Core.Path.{subst}
use Prim.Native.Nat.{ℕ, ◌+◌, ◌≤◌, ◌<◌}
use native.Mathlib.Omega.{arith}
use lib.Dec.{T, eqb, ltb, leb, leb→le, ltb→lt, lt→ltb, eqb→eq, eqb_refl}
use Rattle.basis.proofs.BoolLaws.{and_elim, and_intro}
use Rattle.format.specs.declared.Shape.{Shape}
use Rattle.format.specs.Shape.{sc, covers, overlap, equal, both_sc}

module _ (a b : Shape) where
  pub overlap_sym : T (overlap a b) → T (overlap b a)
  unfolding overlap
  overlap_sym t =
      let p = and_elim _ _ t in
      let q = and_elim _ _ p.1 in
      let r = and_elim _ _ q.1 in
      and_intro _ _ q.0 (and_intro _ _ p.0 (and_intro _ _ r.1 r.0))

  pub both_cover : (n : ℕ) → T (covers a n) → T (covers b n) → T (overlap a b)
  unfolding covers overlap
  both_cover n s t =
      let s0 : a.start ≤ n = leb→le _ _ (and_elim _ _ s).0 in
      let s1 : n < a.start + a.width = ltb→lt _ _ (and_elim _ _ s).1 in
      let t0 : b.start ≤ n = leb→le _ _ (and_elim _ _ t).0 in
      let t1 : n < b.start + b.width = ltb→lt _ _ (and_elim _ _ t).1 in
      and_intro _ _ (lt→ltb 0 a.width (omega arith)) (and_intro _ _ (lt→ltb 0 b.width (omega arith))
      (and_intro _ _ (lt→ltb a.start (b.start + b.width) (omega arith)) (lt→ltb b.start (a.start + a.width) (omega arith))))

  pub equal_sym : T (equal a b) → T (equal b a)
  unfolding equal
  equal_sym t =
      let e = eqb→eq _ _ (and_elim _ _ t).0 in
      let f = eqb→eq _ _ (and_elim _ _ t).1 in
      and_intro _ _ (subst (λ (n : ℕ). T (eqb n a.start)) e (eqb_refl a.start)) (subst (λ (n : ℕ). T (eqb n a.width)) f (eqb_refl a.width))

  pub covers_equal : (n : ℕ) → T (equal a b) → T (covers a n) → T (covers b n)
  unfolding equal covers
  covers_equal n e c =
      let s = eqb→eq _ _ (and_elim _ _ e).0 in
      let w = eqb→eq _ _ (and_elim _ _ e).1 in
      and_intro _ _ (subst (λ (i : ℕ). T (leb i n)) s (and_elim _ _ c).0)
      (subst (λ (i : ℕ). T (ltb n (b.start + i))) w (subst (λ (i : ℕ). T (ltb n (i + a.width))) s (and_elim _ _ c).1))

pub equal_trans : (a b c : Shape) → T (equal a b) → T (equal b c) → T (equal a c)
unfolding equal
equal_trans a b c s t =
    let e = eqb→eq _ _ (and_elim _ _ t).0 in
    let f = eqb→eq _ _ (and_elim _ _ t).1 in
    and_intro _ _ (subst (λ (n : ℕ). T (eqb a.start n)) e (and_elim _ _ s).0) (subst (λ (n : ℕ). T (eqb a.width n)) f (and_elim _ _ s).1)

pub equal_self : (a : Shape) → T (equal a a)
unfolding equal
equal_self a = and_intro _ _ (eqb_refl a.start) (eqb_refl a.width)

pub record BothSc (a b : Shape) : Type 0 where
  pub left : T (sc a)
  pub right : T (sc b)
  pub ranges : T (equal a b)

pub both_elim : (a b : Shape) → T (both_sc a b) → BothSc a b
unfolding both_sc
both_elim a b t = record { left = (and_elim _ _ t).0; right = (and_elim _ _ (and_elim _ _ t).1).0; ranges = (and_elim _ _ (and_elim _ _ t).1).1 }

pub both_intro : (a b : Shape) → BothSc a b → T (both_sc a b)
unfolding both_sc
both_intro a b h = and_intro _ _ h.left (and_intro _ _ h.right h.ranges)

pub both_sym : (a b : Shape) → T (both_sc a b) → T (both_sc b a)
both_sym a b t = let h = both_elim a b t in both_intro b a (record { left = h.right; right = h.left; ranges = equal_sym a b h.ranges })
