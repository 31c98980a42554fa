-- The laws of specs/steps/Sweep.antt. Assumes nothing.
--     absorb_in absorb_out mem_absorb    one row after a pivot
--     absorb_then swept_row              a row after two pivots, from what each leads to
--     note_empty note_some               a row noted, or passed over
--     Looked looked_none looked_more looked_all    which pivots there are, row by row
--     Rewritten rewritten_none rewritten_more rewritten_row swept_items      rows rewritten one after another
use mathlib.Core.Path.{◌≡◌, refl, sym, ap, ap₂, ◌∙◌, subst}
use mathlib.Core.Bool.{Bool, true, false, ◌&&◌, ◌||◌, or-false}
use mathlib.Core.Logic.{⊎_elim}
use mathlib.Core.List.{List, ◌++◌}
use Prim.Native.Nat.{ℕ, ◌+◌, ◌%◌, ◌≤◌, ◌<◌}
use native.Mathlib.Nat.{not-suc-le-zero, le_refl}
use native.Mathlib.Omega.{arith}
use borrow.Author.Tests.{eqb-true}
use lib.Dec.{eqb}
use lib.ListN.{length, get_or, set, take, drop, length-set, length-append, length-drop, get_or-append}
use Rattle.std.proofs.lemmas.List.{get_or-take, length-take-le, drop_at}
use lib.Seq.{get_or-set_same, get_or-set_other, drop-set-lt}
use lib.Bits.{bit_and, bit_or}
use Rattle.basis.proofs.BoolLaws.{by_bool, not_both_ways, false_of, bar_left, bar_right, and_parts, eqb_self}
use Rattle.basis.proofs.ListLaws.{up_more}
use Rattle.sets.specs.Mask.{slots, mem, Has, pick, insert}
use Rattle.sets.proofs.MaskLaws.{ext_all, mem_and, mem_or, mem_empty, at_slot, insert_new, insert_old, insert_cases}
use Rattle.closing.specs.steps.Sweep.{succ_of, absorb, pivot, noted, Pivots, Swept}

-- ---- one row after a pivot

pub absorb_in : (x k row : ℕ) → mem x k ≡ true → absorb x k row ≡ bit_or x row
unfolding absorb
absorb_in x k row h = ap (λ (b : Bool). pick b (bit_or x row) x) h

pub absorb_out : (x k row : ℕ) → mem x k ≡ false → absorb x k row ≡ x
unfolding absorb
absorb_out x k row h = ap (λ (b : Bool). pick b (bit_or x row) x) h

pub mem_absorb : (x k row d : ℕ) → mem (absorb x k row) d ≡ (mem x d || (mem x k && mem row d))
mem_absorb x k row d =
    by_bool (mem x k)
    (λ h. ap (λ (s : ℕ). mem s d) (absorb_in x k row h) ∙ mem_or x row d ∙ sym (ap (λ (b : Bool). mem x d || (b && mem row d)) h))
    (λ h. ap (λ (s : ℕ). mem s d) (absorb_out x k row h) ∙ sym (or-false (mem x d)) ∙ sym (ap (λ (b : Bool). mem x d || (b && mem row d)) h))

-- ---- and after two: by way of k, by way of j, and by way of k and then j

ways : (here k j row thence other : Bool) → ((here || (k && (row || (thence && other)))) || (here || (j && other))) ≡ ((here || (k && row)) || ((j || (k && thence)) && other))
ways true k j row thence other = refl
ways false false true row thence other = refl
ways false false false row thence other = refl
ways false true j true thence other = refl
ways false true true false true true = refl
ways false true true false true false = refl
ways false true true false false other = refl
ways false true false false true true = refl
ways false true false false true false = refl
ways false true false false false other = refl

pub absorb_then : (x k row j other : ℕ) → bit_or (absorb x k (absorb row j other)) (absorb x j other) ≡ absorb (absorb x k row) j other
absorb_then x k row j other =
    ext_all (bit_or (absorb x k (absorb row j other)) (absorb x j other)) (absorb (absorb x k row) j other) (λ d.
    mem_or (absorb x k (absorb row j other)) (absorb x j other) d
    ∙ ap₂ (λ (a b : Bool). a || b) (mem_absorb x k (absorb row j other) d ∙ ap (λ (b : Bool). mem x d || (mem x k && b)) (mem_absorb row j other d)) (mem_absorb x j other d)
    ∙ ways (mem x d) (mem x k) (mem x j) (mem row d) (mem row j) (mem other d)
    ∙ sym (ap₂ (λ (a b : Bool). a || (b && mem other d)) (mem_absorb x k row d) (mem_absorb x k row j))
    ∙ sym (mem_absorb (absorb x k row) j other d))

-- what the pass makes of a row x: `other` is what j leads to after pivot k, `row` what k leads to after both
pub swept_row : (f : ℕ → ℕ) (k j e : ℕ) → k < slots → j < slots → {x other row r : ℕ} → x ≡ f e → other ≡ absorb (f j) (k % slots) (f k) → row ≡ absorb (f k) (j % slots) other → r ≡ bit_or (absorb x (k % slots) row) (absorb x (j % slots) other) → r ≡ pivot j (pivot k f) e
swept_row f k j e kl jl {x} {other} {row} hx ho hr h =
    let o : other ≡ absorb (f j) k (f k) = ho ∙ at_slot (λ (i : ℕ). absorb (f j) i (f k)) k kl in
    let w : row ≡ absorb (f k) j other = hr ∙ at_slot (λ (i : ℕ). absorb (f k) i other) j jl in
    h ∙ ap₂ bit_or (at_slot (λ (i : ℕ). absorb x i row) k kl ∙ ap (absorb x k) w) (at_slot (λ (i : ℕ). absorb x i other) j jl)
    ∙ absorb_then x k (f k) j other ∙ ap₂ (λ (y q : ℕ). absorb (absorb y k (f k)) j q) hx o

-- ---- which pivots there are

pub note_empty : (s e x : ℕ) → x ≡ 0 → noted s e x ≡ s
unfolding noted
note_empty s e x h = ap (λ (b : Bool). pick b s (insert s e)) (ap (λ (y : ℕ). eqb y 0) h ∙ eqb_self 0)

pub note_some : (s e x : ℕ) → eqb x 0 ≡ false → noted s e x ≡ insert s e
unfolding noted
note_some s e x h = ap (λ (b : Bool). pick b s (insert s e)) h

-- the first i rows have been looked at: where they lead to, and which of them lead somewhere
pub record Looked (i : ℕ) (rows : List ℕ) (into from : ℕ) : Type 0 where
  pub into_all : (e : ℕ) → e < i → (d : ℕ) → Has (get_or rows e 0) d → Has into d
  pub from_below : (p : ℕ) → Has from p → p < i
  pub from_all : (p : ℕ) → p < i → mem from p ≡ false → get_or rows p 0 ≡ 0

pub looked_none : (rows : List ℕ) → Looked 0 rows 0 0
looked_none rows = record {
  into_all = λ e l. absurd (not-suc-le-zero l);
  from_below = λ p h. absurd (not_both_ways h (mem_empty p));
  from_all = λ p l. absurd (not-suc-le-zero l);
}

module _ {i : ℕ} {rows : List ℕ} {into from : ℕ} (k : Looked i rows into from) where
  abbrev x : ℕ
  x = get_or rows i 0

  -- the set with event i noted
  noted_below : (p : ℕ) → Has (noted from i x) p → p < i + 1
  noted_below p h =
      by_bool (eqb x 0)
      (λ e. let l = k.from_below p (sym (ap (λ (s : ℕ). mem s p) (note_empty from i x (eqb-true x 0 e))) ∙ h) in omega arith)
      (λ e. ⊎_elim (λ q. omega (arith, q)) (λ q. let l = k.from_below p q in omega arith) (insert_cases from i p (sym (ap (λ (s : ℕ). mem s p) (note_some from i x e)) ∙ h)))

  noted_keeps : (p : ℕ) → Has from p → Has (noted from i x) p
  noted_keeps p h =
      by_bool (eqb x 0)
      (λ e. ap (λ (s : ℕ). mem s p) (note_empty from i x (eqb-true x 0 e)) ∙ h)
      (λ e. ap (λ (s : ℕ). mem s p) (note_some from i x e) ∙ insert_old from i p h)

  noted_here : mem (noted from i x) i ≡ false → x ≡ 0
  noted_here h =
      by_bool (eqb x 0) (λ e. eqb-true x 0 e)
      (λ e. absurd (not_both_ways (ap (λ (s : ℕ). mem s i) (note_some from i x e) ∙ insert_new from i) h))

  looked : Looked (i + 1) rows (bit_or into x) (noted from i x)
  looked = record {
    into_all = up_more (λ e l d h. mem_or into x d ∙ bar_left (mem into d) (mem x d) (k.into_all e l d h)) (λ d h. mem_or into x d ∙ bar_right (mem into d) (mem x d) h);
    from_below = noted_below;
    from_all = up_more (λ p l h. k.from_all p l (false_of (mem from p) (λ t. not_both_ways (noted_keeps p t) h))) noted_here;
  }

  pub looked_more : {r : ℕ} → i < slots → r ≡ noted from (i % slots) x → Looked (i + 1) rows (bit_or into x) r
  looked_more l e = subst (Looked (i + 1) rows (bit_or into x)) (sym (e ∙ at_slot (λ (k : ℕ). noted from k x) i l)) looked

  -- a number that leads somewhere and that some row leads to is in both
  pub looked_all : Pivots i rows (bit_and into from)
  looked_all = record {
    below = λ p h. k.from_below p (and_parts (mem into p) (mem from p) (sym (mem_and into from p) ∙ h)).1;
    idle = λ p l h e le t. k.from_all p l (false_of (mem from p) (λ f. not_both_ways (mem_and into from p ∙ ap₂ (λ (a b : Bool). a && b) (k.into_all e le p t) f) h));
  }

-- ---- rows rewritten one after another: the first i of n are g's, the others as they were

pub record Rewritten (g : ℕ → ℕ) (n i : ℕ) (r₀ r : List ℕ) : Type 0 where
  pub size : length r ≡ length r₀
  pub done : (e : ℕ) → e < i → get_or r e 0 ≡ g e
  pub same : (e : ℕ) → i ≤ e → get_or r e 0 ≡ get_or r₀ e 0
  pub rest : drop n r ≡ drop n r₀

pub rewritten_none : (g : ℕ → ℕ) (n : ℕ) (r₀ : List ℕ) → Rewritten g n 0 r₀ r₀
rewritten_none g n r₀ = record { size = refl; done = λ e l. absurd (not-suc-le-zero l); same = λ e l. refl; rest = refl }

pub rewritten_more : {g : ℕ → ℕ} {n i : ℕ} {r₀ r : List ℕ} (v : ℕ) → i < n → i < length r → v ≡ g i → Rewritten g n i r₀ r → Rewritten g n (i + 1) r₀ (set r i v)
rewritten_more {g} {n} {i} {r₀} {r} v l il is w = record {
  size = length-set r i v ∙ w.size;
  done = up_more (λ e h. get_or-set_other r i e v 0 (λ q. omega arith) ∙ w.done e h) (get_or-set_same r i v 0 il ∙ is);
  same = λ e h. get_or-set_other r i e v 0 (λ q. omega arith) ∙ w.same e (omega arith);
  rest = drop-set-lt n r i v l ∙ w.rest;
}

-- the first n rows rewritten, as a part of the table
pub swept_items : {n k j i : ℕ} {rows items : List ℕ} → n ≤ length rows → n ≤ i → Rewritten (pivot j (pivot k (succ_of rows))) n i (take n rows) items → Swept n k j rows (items ++ drop n rows)
swept_items {n} {k} {j} {i} {rows} {items} few all w =
    let z : length items ≡ n = w.size ∙ length-take-le n rows few in
    record {
      size = length-append items (drop n rows) ∙ (let d = length-drop n rows in omega (arith, z, d));
      each = λ e l. get_or-append items (drop n rows) 0 e (omega (arith, z)) ∙ w.done e (omega arith);
      rest = drop_at items (drop n rows) n z;
    }

-- the row that is rewritten next
pub rewritten_row : {g : ℕ → ℕ} {n i : ℕ} {items : List ℕ} (rows : List ℕ) → Rewritten g n i (take n rows) items → i < n → get_or items i 0 ≡ get_or rows i 0
rewritten_row {n = n} {i = i} rows w l = w.same i (le_refl i) ∙ get_or-take n rows i 0 l
