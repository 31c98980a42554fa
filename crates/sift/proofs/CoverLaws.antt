-- The laws of specs/Cover.antt, and what an access covers. Assumes nothing.
--     covered_none, covered_more, covered_part       byte by byte
--     covers_parts, by_first           the bytes that an access covers; an event without a second access writes by its first
use mathlib.Core.Path.{◌≡◌, refl, sym, ap, ap₂, ◌∙◌, subst}
use mathlib.Core.Bool.{Bool, true, false, cond}
use mathlib.Core.List.{List, [], ◌∷◌, ◌++◌}
use Prim.Native.Nat.{ℕ, ◌+◌, ◌*◌, ◌≤◌, ◌<◌, min}
use native.Mathlib.Nat.{zero-add, suc-add}
use native.Mathlib.Omega.{arith}
use native.Mathlib.Decide.{ℕ_discrete}
use borrow.Author.Tests.{lt-ltb, le-leb, ltb-true, ltb-false, leb-true}
use lib.Bits.{bit_or, or_zero_r}
use lib.Dec.{ltb, leb}
use lib.ListN.{length, get_or, set, take, length-set, get_or-append}
use lib.Seq.{get_or-set_same, get_or-set_other, length-take-le, get_or-append-add, set-append_left}
use borrow.Rule.Slice.PartMut.{put_mid, post_of}
use Rattle.basis.specs.Test.{◌and◌}
use Rattle.basis.proofs.BoolLaws.{by_bool, bool_ext, false_of, and_both, both_hold}
use Rattle.format.specs.declared.Shape.{Shape}
use Rattle.format.specs.Shape.{no_shape, covers, writes}
use Rattle.tables.specs.Tables.{shape_in, slot_in, at_in, writes_in}
use Rattle.tables.proofs.TablesLaws.{slot_first, slot_second, at_hit, at_miss}
use Rattle.sift.specs.Cover.{Covered}

-- ---- byte by byte

within : (k n a : ℕ) → k ≤ a → a < k + n → (leb k a and ltb a (k + n)) ≡ true
within k n a p q = both_hold (leb k a) (ltb a (k + n)) (le-leb k a p) (lt-ltb a (k + n) q)

within_parts : (k n a : ℕ) → (leb k a and ltb a (k + n)) ≡ true → (k ≤ a) × (a < k + n)
within_parts k n a h = let w = and_both (leb k a) (ltb a (k + n)) h in (leb-true k a w.0, ltb-true a (k + n) w.1)

behind : (k n a : ℕ) → k + n ≤ a → (leb k a and ltb a (k + n)) ≡ false
behind k n a h = false_of _ (λ y. let w = (within_parts k n a y).1 in omega arith)

pub covered_none : (k w x : ℕ) (l : List ℕ) → Covered k (min w 0) x l l
covered_none k w x l = record { size = refl; each = λ a h. sym (ap (λ (b : Bool). cond b (bit_or (get_or l a 0) x) (get_or l a 0)) (none a)) }
  where
    none : (a : ℕ) → (leb k a and ltb a (k + min w 0)) ≡ false
    none a = false_of _ (λ y. let p = within_parts k (min w 0) a y in let q = p.0 in let r = p.1 in omega arith)

module _ (k w x i : ℕ) (l l' : List ℕ) (y : ℕ)
    (is : y ≡ bit_or (get_or l' (k + i) 0) (cond (ltb i w) x 0)) (old : Covered k (min w i) x l l') where
  pub covered_more : Covered k (min w (i + 1)) x l (set l' (k + i) y)
  covered_more = record { size = length-set l' (k + i) y ∙ old.size; each = λ a h. go a h (ℕ_discrete a (k + i)) }
    where
      pick : (a : ℕ) (n : ℕ) (b : Bool) → (leb k a and ltb a (k + n)) ≡ b
          → cond (leb k a and ltb a (k + n)) (bit_or (get_or l a 0) x) (get_or l a 0) ≡ cond b (bit_or (get_or l a 0) x) (get_or l a 0)
      pick a n b e = ap (λ (c : Bool). cond c (bit_or (get_or l a 0) x) (get_or l a 0)) e

      before : k + i < length l → get_or l' (k + i) 0 ≡ get_or l (k + i) 0
      before h = old.each (k + i) h ∙ pick (k + i) (min w i) false (behind k (min w i) (k + i) (omega arith))

      here : k + i < length l → y ≡ cond (leb k (k + i) and ltb (k + i) (k + min w (i + 1))) (bit_or (get_or l (k + i) 0) x) (get_or l (k + i) 0)
      here inside =
          by_bool (ltb i w)
          (λ h. is ∙ ap (λ (b : Bool). bit_or (get_or l' (k + i) 0) (cond b x 0)) h ∙ ap (λ (z : ℕ). bit_or z x) (before inside)
          ∙ sym (pick (k + i) (min w (i + 1)) true (within k (min w (i + 1)) (k + i) (omega arith) (let z = ltb-true i w h in omega arith))))
          (λ h. is ∙ ap (λ (b : Bool). bit_or (get_or l' (k + i) 0) (cond b x 0)) h ∙ or_zero_r (get_or l' (k + i) 0) ∙ before inside
          ∙ sym (pick (k + i) (min w (i + 1)) false (behind k (min w (i + 1)) (k + i) (let z = ltb-false i w h in omega arith))))

      same : (a : ℕ) → (a ≡ k + i → ⊥) → (leb k a and ltb a (k + min w i)) ≡ (leb k a and ltb a (k + min w (i + 1)))
      same a f =
          bool_ext _ _
          (λ h. let p = within_parts k (min w i) a h in let r = p.1 in within k (min w (i + 1)) a p.0 (omega arith))
          (λ h. let p = within_parts k (min w (i + 1)) a h in let r = p.1 in within k (min w i) a p.0 (omega (arith, f)))

      go : (a : ℕ) → a < length l → Dec (a ≡ k + i)
          → get_or (set l' (k + i) y) a 0 ≡ cond (leb k a and ltb a (k + min w (i + 1))) (bit_or (get_or l a 0) x) (get_or l a 0)
      go a h (yes e) =
          ap (λ (z : ℕ). get_or (set l' (k + i) y) z 0) e ∙ get_or-set_same l' (k + i) y 0 (let z = old.size in omega arith) ∙ here (omega arith)
          ∙ ap (λ (z : ℕ). cond (leb k z and ltb z (k + min w (i + 1))) (bit_or (get_or l z 0) x) (get_or l z 0)) (sym e)
      go a h (no e) =
          get_or-set_other l' (k + i) a y 0 e ∙ old.each a h ∙ ap (λ (b : Bool). cond b (bit_or (get_or l a 0) x) (get_or l a 0)) (same a e)

-- the same of a part of the masks that stands where it was taken from
pub covered_part : (k w x i m : ℕ) (l items : List ℕ) → k ≤ length l → i < length items → i < w → Covered k (min w i) x l (put_mid k m l items)
    → Covered k (min w (i + 1)) x l (put_mid k m l (set items i (bit_or (get_or items i 0) x)))
covered_part k w x i m l items few low inside old =
    let y = bit_or (get_or items i 0) x in
    let b = post_of k m l in
    let at : get_or (put_mid k m l items) (k + i) 0 ≡ get_or items i 0 =
    subst (λ (n : ℕ). get_or (put_mid k m l items) (n + i) 0 ≡ get_or items i 0) (length-take-le k l few)
    (get_or-append-add (take k l) (items ++ b) i 0 ∙ get_or-append items b 0 i low) in
    let stored : set (put_mid k m l items) (k + i) y ≡ put_mid k m l (set items i y) =
    subst (λ (n : ℕ). set (put_mid k m l items) (n + i) y ≡ put_mid k m l (set items i y)) (length-take-le k l few)
    (set_behind (take k l) (items ++ b) i y ∙ ap (λ (z : List ℕ). take k l ++ z) (set-append_left items b i y low)) in
    subst (Covered k (min w (i + 1)) x l) stored
    (covered_more k w x i l (put_mid k m l items) y (ap₂ bit_or (sym at) (sym (ap (λ (b : Bool). cond b x 0) (lt-ltb i w inside)))) old)
  where
    set_behind : (p q : List ℕ) (j v : ℕ) → set (p ++ q) (length p + j) v ≡ p ++ set q j v
    set_behind [] q j v = ap (λ (n : ℕ). set q n v) (zero-add j)
    set_behind (e ∷ p) q j v = ap (λ (n : ℕ). set (e ∷ (p ++ q)) n v) (suc-add (length p) j) ∙ ap (λ (z : List ℕ). e ∷ z) (set_behind p q j v)

-- ---- an access

pub covers_parts : (s : Shape) (a : ℕ) → covers s a ≡ true → (s.start ≤ a) × (a < s.start + s.width)
unfolding covers
covers_parts s a h = let w = and_both (leb s.start a) (ltb a (s.start + s.width)) h in (leb-true s.start a w.0, ltb-true a (s.start + s.width) w.1)

-- an event without a second access writes by its first
pub by_first : (t : List ℕ) (v a : ℕ) → (shape_in t (2 * v + 1)).width ≡ 0 → writes_in t v a ≡ true → (covers (shape_in t (2 * v)) a ≡ true) × (writes (shape_in t (2 * v)) ≡ true)
unfolding writes_in
by_first t v a none h =
    let w = and_both (covers (at_in t v a) a) (writes (at_in t v a)) h in
    by_bool (covers (shape_in t (slot_in t v a)) a)
    (λ y. by_bool (covers (shape_in t (2 * v)) a)
    (λ f. (f, ap writes (sym (at_hit t v a y ∙ ap (shape_in t) (slot_first t v a f))) ∙ w.1))
    (λ f. absurd (second (ap (λ (k : ℕ). covers (shape_in t k) a) (sym (slot_second t v a f)) ∙ y))))
    (λ y. absurd (nothing (ap (λ (s : Shape). covers s a) (sym (at_miss t v a y)) ∙ w.0)))
  where
    second : covers (shape_in t (2 * v + 1)) a ≡ true → ⊥
    second y = let p = covers_parts (shape_in t (2 * v + 1)) a y in let q = p.0 in let r = p.1 in omega arith

    nothing : covers no_shape a ≡ true → ⊥
    nothing y = let p = covers_parts no_shape a y in let r = p.1 in omega arith
