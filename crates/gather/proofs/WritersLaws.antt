-- The laws of specs/Writers.antt. Assumes nothing.
--     readers_none readers_more writers_empty     the readers that have bars with v; none
--     writers_none writers_in_lem writers_out     the writers that have bars with v, one after the other
--     row_length row_at                a row of masks, as a part of the table
--     writers_unique gathers_unique    two conforming answers agree: the writers that have bars with v, and those of each event
use Prim.Native.Nat.{ℕ, ◌+◌, ◌<◌, ◌≤◌, ◌-◌, min}
use mathlib.Core.Path.{◌≡◌, sym, ap, subst, ◌∙◌}
use mathlib.Core.Bool.{true, false, ◌||◌}
use mathlib.Core.Logic.{◌⊎◌, inl, inr, ⊎_elim}
use mathlib.Core.List.{List, ◌++◌}
use native.Mathlib.Omega.{arith}
use native.Mathlib.Decide.{ℕ_discrete, dec_lt}
use lib.Bits.{bit_or}
use lib.ListN.{length, get_or, drop, length-drop, length-append, get_or-append, drop_of_length-le}
use borrow.Rule.Slice.PartMut.{mid_of}
use Rattle.std.proofs.lemmas.List.{get_or-take, length-take-le, drop_at}
use lib.Seq.{ext_get_or, get_or-drop}
use Rattle.basis.proofs.BoolLaws.{not_both_ways, bar_left, bar_right, bool_ext, false_of, by_bool}
use Rattle.sets.specs.Mask.{slots, mem, Has, insert}
use Rattle.sets.proofs.MaskLaws.{mem_or, mem_empty, insert_new, insert_old, insert_cases, ext_all}
use Rattle.gather.specs.Writers.{bar_at, Readers, Writers, Gathers}

-- ---- the readers and writers that have bars with v, among the first j

pub readers_none : (bars : List ℕ) (v : ℕ) → Readers 0 bars v 0
readers_none bars v w r l h = absurd (omega arith)

pub readers_more : (bars : List ℕ) (v j c : ℕ) → Readers j bars v c → Readers (j + 1) bars v (bit_or c (bar_at bars v j))
readers_more bars v j c have w r l h = mem_or c (bar_at bars v j) r ∙ go (ℕ_discrete w j)
  where
    go : Dec (w ≡ j) → (mem c r || mem (bar_at bars v j) r) ≡ true
    go (yes e) = bar_right (mem c r) (mem (bar_at bars v j) r) (subst (λ (i : ℕ). Has (bar_at bars v i) r) e h)
    go (no e) = bar_left (mem c r) (mem (bar_at bars v j) r) (have w r (omega (arith, e)) h)

-- without a reader there is no writer
pub writers_empty : (m : ℕ) (bars : List ℕ) (v c : ℕ) → m ≤ slots → Readers slots bars v c → c ≡ 0 → Writers m bars v 0
writers_empty m bars v c few have z =
    record {
      only = λ w h. absurd (not_both_ways h (mem_empty w));
      some = λ w h. absurd (not_both_ways h (mem_empty w));
      all = λ w r l h. absurd (not_both_ways (have w r (omega arith) h) (ap (λ (i : ℕ). mem i r) z ∙ mem_empty r));
    }

pub writers_none : (bars : List ℕ) (v : ℕ) → Writers 0 bars v 0
writers_none bars v =
    record { only = λ w h. absurd (not_both_ways h (mem_empty w)); some = λ w h. absurd (not_both_ways h (mem_empty w)); all = λ w r l h. absurd (omega arith) }

module _ {bars : List ℕ} {j v c : ℕ} (have : Writers j bars v c) where
  pub writers_in_lem : (bar_at bars v j ≡ 0 → ⊥) → Writers (j + 1) bars v (insert c j)
  writers_in_lem f =
      record {
        only = λ w h. old w (insert_cases c j w h);
        some = λ w h. ⊎_elim (λ p z. f (subst (λ (x : ℕ). bar_at bars v x ≡ 0) p z)) (have.some w) (insert_cases c j w h);
        all = λ w r l h. new w r l h (ℕ_discrete w j);
      }
    where
      old : (w : ℕ) → (w ≡ j) ⊎ Has c w → w < j + 1
      old w (inl p) = omega arith
      old w (inr h) = let q = have.only w h in omega arith

      new : (w r : ℕ) → w < j + 1 → Has (bar_at bars v w) r → Dec (w ≡ j) → Has (insert c j) w
      new w r l h (no q) = insert_old c j w (have.all w r (omega (arith, q)) h)
      new w r l h (yes q) = subst (λ (x : ℕ). Has (insert c j) x) (sym q) (insert_new c j)

  pub writers_out : bar_at bars v j ≡ 0 → Writers (j + 1) bars v c
  writers_out z = record { only = λ w h. let q = have.only w h in omega arith; some = have.some; all = λ w r l h. new w r l h (ℕ_discrete w j) }
    where
      new : (w r : ℕ) → w < j + 1 → Has (bar_at bars v w) r → Dec (w ≡ j) → Has c w
      new w r l h (no q) = have.all w r (omega (arith, q)) h
      new w r l h (yes q) = absurd (not_both_ways h (ap (λ (x : ℕ). mem (bar_at bars v x) r) q ∙ ap (λ (x : ℕ). mem x r) z ∙ mem_empty r))

-- ---- the masks of as many of the first m events as there is room for

pub gathers_part : {m room : ℕ} {bars ws : List ℕ} (items : List ℕ) → room ≡ min m (length ws) → length items ≡ room → ((v : ℕ) → v < room → Writers m bars v (get_or items v 0)) → Gathers m bars ws (items ++ drop room ws)
gathers_part {m} {room} {bars} {ws} items r z each =
    let size : length (items ++ drop room ws) ≡ length ws = length-append items (drop room ws) ∙ (let d = length-drop room ws in omega (arith, z, d, r)) in
    record {
      size = size;
      each = λ v h k. subst (Writers m bars v) (sym (get_or-append items (drop room ws) 0 v (omega (arith, z, r)))) (each v (omega (arith, r)));
      rest = go (dec_lt m (length ws)) size;
    }
  where
    go : Dec (m < length ws) → length (items ++ drop room ws) ≡ length ws → drop m (items ++ drop room ws) ≡ drop m ws
    go (yes l) e = let q : room ≡ m = omega (arith, r) in drop_at items (drop room ws) m (z ∙ q) ∙ ap (λ (x : ℕ). drop x ws) q
    go (no f) e = drop_of_length-le (items ++ drop room ws) (omega (arith, e, f)) ∙ sym (drop_of_length-le ws (omega (arith, f)))

-- ---- two conforming answers

module _ {m : ℕ} {bars : List ℕ} where
  -- a bar's mask that is not empty has a member
  within : {v c d : ℕ} → Writers m bars v c → Writers m bars v d → (w : ℕ) → Has c w → Has d w
  within {v} {c} {d} a b w h = by_bool (mem d w) (λ y. y) (λ n. absurd (a.some w h (none n)))
    where
      none : mem d w ≡ false → bar_at bars v w ≡ 0
      none n = ext_all (bar_at bars v w) 0 (λ r. false_of _ (λ g. not_both_ways (b.all w r (a.only w h) g) n) ∙ sym (mem_empty r))

  pub writers_unique : {v c d : ℕ} → Writers m bars v c → Writers m bars v d → c ≡ d
  writers_unique {v} {c} {d} a b = ext_all c d (λ w. bool_ext (mem c w) (mem d w) (within a b w) (within b a w))

module _ {m : ℕ} {bars ws p q : List ℕ} (a : Gathers m bars ws p) (b : Gathers m bars ws q) where
  same_mask : (v : ℕ) → v < length p → Dec (v < m) → get_or p v 0 ≡ get_or q v 0
  same_mask v k (yes l) = let z = a.size in writers_unique (a.each v l (omega (arith, z))) (b.each v l (omega (arith, z)))
  same_mask v k (no f) =
      let at : m + (v - m) ≡ v = omega (arith, f) in
      ap (λ (i : ℕ). get_or p i 0) (sym at) ∙ sym (get_or-drop m p (v - m) 0) ∙ ap (λ (l : List ℕ). get_or l (v - m) 0) (a.rest ∙ sym b.rest)
      ∙ get_or-drop m q (v - m) 0 ∙ ap (λ (i : ℕ). get_or q i 0) at

  pub gathers_unique : p ≡ q
  gathers_unique = ext_get_or 0 p q (a.size ∙ sym b.size) (λ v l. same_mask v l (dec_lt v m))

-- ---- a row of masks, as a part of the table

pub row_length : (bars : List ℕ) (a n : ℕ) → a + n ≤ length bars → length (mid_of a n bars) ≡ n
row_length bars a n h = let d = length-drop a bars in length-take-le n (drop a bars) (omega (arith, d))

pub row_at : (bars : List ℕ) (a n i : ℕ) → i < n → get_or (mid_of a n bars) i 0 ≡ get_or bars (a + i) 0
row_at bars a n i l = get_or-take n (drop a bars) i 0 l ∙ get_or-drop a bars i 0
