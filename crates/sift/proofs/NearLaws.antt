-- The laws of specs/steps/Near.antt. Assumes nothing.
--     near_none, near_next     it begins; an event more
--     telling                  who may write a byte
use mathlib.Core.Path.{◌≡◌, refl, sym, ap, ◌∙◌, subst}
use mathlib.Core.Bool.{Bool, true, false, not, cond}
use mathlib.Core.List.{List}
use Prim.Native.Nat.{ℕ, ◌+◌, ◌-◌, ◌*◌, ◌%◌, ◌^◌, ◌≤◌, ◌<◌, min}
use native.Mathlib.Omega.{arith}
use native.Mathlib.Decide.{dec_lt}
use borrow.Author.Tests.{le-leb, lt-leb}
use lib.Bits.{bit_or}
use lib.Dec.{eqb, ltb, leb}
use lib.ListN.{length, get_or, replicate, length-replicate, get_or-replicate}
use Rattle.basis.specs.Test.{◌and◌, ◌or◌, non}
use Rattle.basis.proofs.BoolLaws.{false_of, or_none, or_fails, or_assoc, bar_or}
use Rattle.format.specs.declared.Shape.{Shape}
use Rattle.format.specs.Shape.{writes}
use Rattle.sets.specs.Mask.{slots, mem, Has, insert, remove, full}
use Rattle.sets.proofs.MaskLaws.{mem_or, mem_empty, mem_insert, mem_compl, mem_full, full_has, lt_of_members, remove_old, remove_lt}
use Rattle.cells.proofs.WalkLaws.{mem_picked}
use Rattle.tables.specs.Tables.{shape_in}
use Rattle.sift.specs.Cover.{near_room, Covered}
use Rattle.sift.specs.Clean.{wide_of, near_to, Telling}
use Rattle.sift.specs.steps.Noted.{NotedIn}
use Rattle.sift.specs.steps.Near.{Near}
use Rattle.sift.proofs.LeftLaws.{done_none, done_next, done_all}

pub near_none : (t : List ℕ) (ws : ℕ) (l : List ℕ) → ws < 2 ^ slots → Near t ws ws l l
near_none t ws l h =
    record {
      size = refl;
      width = h;
      of = λ v p. p;
      each = λ v a k. sym (ap (λ (b : Bool). mem (get_or l a 0) v or b) (done_none (mem ws v) (near_to (shape_in t (2 * v)) a)) ∙ or_none (mem (get_or l a 0) v));
    }

-- a mask that gained an event where a test passed
joined_mem : (b : Bool) (m x v d : ℕ) → x ≡ insert 0 v → mem (cond b (bit_or m x) m) d ≡ (mem m d or (b and eqb d v))
unfolding ◌and◌ ◌or◌
joined_mem true m x v d e =
    mem_or m x d ∙ bar_or (mem m d) (mem x d) ∙ ap (λ (c : Bool). mem m d or c) (ap (λ (z : ℕ). mem z d) e ∙ mem_insert 0 v d ∙ bar_or (mem 0 d) (eqb d v) ∙ or_fails (mem 0 d) (eqb d v) (mem_empty d))
joined_mem false m x v d e = sym (or_none (mem m d))

module _ (t : List ℕ) (ws left : ℕ) (l l' : List ℕ) (g : Near t ws left l l') (v : ℕ) (has : Has left v) (s : Shape) (is : s ≡ shape_in t (2 * v)) (x : ℕ) (put : x ≡ insert 0 v) (l'' : List ℕ)
    (done : Covered (s.start % near_room) (min s.width 8) x l' l'') where
  gains : (d a : ℕ) → a < length l → mem (get_or l'' a 0) d ≡ (mem (get_or l' a 0) d or (near_to (shape_in t (2 * v)) a and eqb d v))
  unfolding near_to
  gains d a h =
      ap (λ (m : ℕ). mem m d) (done.each a (let z = g.size in omega arith))
      ∙ joined_mem (leb (s.start % near_room) a and ltb a (s.start % near_room + min s.width 8)) (get_or l' a 0) x v d put
      ∙ ap (λ (z : Shape). mem (get_or l' a 0) d or ((leb (z.start % near_room) a and ltb a (z.start % near_room + min z.width 8)) and eqb d v)) is

  pub near_next : (left' : ℕ) → left' ≡ remove left v → Near t ws left' l l''
  near_next left' e = subst (λ (x : ℕ). Near t ws x l l'') (sym e)
      (record {
        size = done.size ∙ g.size;
        width = let z = remove_lt left v has in let y = g.width in omega arith;
        of = λ d p. g.of d (remove_old left v d p);
        each = λ d a h. gains d a h ∙ ap (λ (b : Bool). b or (near_to (shape_in t (2 * v)) a and eqb d v)) (g.each d a h)
            ∙ or_assoc (mem (get_or l a 0) d) ((mem ws d and non (mem left d)) and near_to (shape_in t (2 * d)) a) (near_to (shape_in t (2 * v)) a and eqb d v)
            ∙ ap (λ (b : Bool). mem (get_or l a 0) d or b) (done_next ws left v has (g.of v has) (λ (i : ℕ). near_to (shape_in t (2 * i)) a) d);
      })

module _ {t by₀ by : List ℕ} {n far scs writers seconds : ℕ} (few : n ≤ slots) (noted : NotedIn t n by₀ by far scs writers seconds) {l : List ℕ} (near : Near t writers 0 (replicate 72 0) l) where
  late : (v : ℕ) → Dec (v < n) → not (mem (full n) v) ≡ leb n v
  late v (yes h) = ap not (mem_full n v h) ∙ sym (lt-leb n v h)
  late v (no h) = ap not (false_of (mem (full n) v) (λ y. h (full_has n v y))) ∙ sym (le-leb n v (omega (arith, h)))

  pub telling : (k : ℕ) → k ≡ full n → Telling t n (bit_or far (2 ^ slots - 1 - k)) l
  telling k e =
      record {
        others = λ v h. mem_or far (2 ^ slots - 1 - k) v ∙ bar_or (mem far v) (mem (2 ^ slots - 1 - k) v)
            ∙ (λ i. (ap (λ (m : ℕ). mem m v) noted.fars ∙ mem_picked n (λ (d : ℕ). wide_of (shape_in t (2 * d))) v) i
            or (ap (λ (m : ℕ). mem (2 ^ slots - 1 - m) v) e ∙ mem_compl slots (full n) v (lt_of_members slots (full n) (λ d g. let z = full_has n d g in omega arith)) h ∙ late v (dec_lt v n)) i);
        near = λ v a h. let long = length-replicate {A = ℕ} 72 0 in
            near.each v a (omega arith) ∙ or_fails _ _ (ap (λ (m : ℕ). mem m v) (get_or-replicate 72 a 0 0 (omega arith)) ∙ mem_empty v)
            ∙ done_all writers v (near_to (shape_in t (2 * v)) a)
            ∙ ap (λ (b : Bool). b and near_to (shape_in t (2 * v)) a) (ap (λ (m : ℕ). mem m v) noted.all ∙ mem_picked n (λ (d : ℕ). writes (shape_in t (2 * d))) v);
      }
