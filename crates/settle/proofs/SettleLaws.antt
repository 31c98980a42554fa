-- The laws of specs/Settle.antt. Assumes nothing.
--     clash_apart, clash_meet, clash_left, clash_right     when two accesses clash
--     ahead_is                       the mask of those to try
--     free_shut, free_open           a pair that happens-before settles, and another
--     partner_start, partner_hit, partner_end     a loop over those to try
--     partner_is, partner_no         what it answers
--     settled_found, settled_none    what the search answers
use Rattle.std.proofs.Common.{◌≡◌, refl, mod-eq_of_lt, ◌%◌, ℕ, ◌+◌, ◌<◌, ◌≤◌, min, Bool, true, false, cond, ltb, List, get_or, sym, ap, ◌∙◌, arith, ltb-true, le-ltb, lt-ltb}
use Rattle.basis.specs.Test.{◌and◌, ◌or◌, non}
use Rattle.basis.proofs.BoolLaws.{and_holds, and_fails, and_both, non_holds, and_assoc, non_fails, bool_ext, false_of, not_both_ways}
use Rattle.format.specs.declared.Shape.{Shape}
use Rattle.format.specs.Shape.{writes, overlap, both_sc}
use Rattle.sets.specs.Mask.{slots, mem, Rest}
use Rattle.sets.proofs.MaskLaws.{lt_of_members, ext_all}
use Rattle.answer.specs.declared.Settled.TheVariants.{Orderly, Unsettled}
use Rattle.std.specs.Prelude.{Option, Some, None}
use Rattle.sets.specs.Members.{Taken}
use Rattle.cells.specs.First.{first_of, first_some}
use Rattle.cells.specs.Walk.{picked}
use Rattle.cells.proofs.FirstLaws.{first_found, Left, left_start, left_hit, left_end, first_past, first_below, some_is, none_is, some_at, none_at}
use Rattle.cells.proofs.WalkLaws.{mem_picked}
use Rattle.tables.proofs.TablesLaws.{overlap_left, overlap_right}
use Rattle.settle.specs.Settle.{clashing, clash_in, open_in, partner_in, loose_in, settled_in}
use Rattle.settle.specs.steps.Ahead.{ahead_in, free_in}

-- what overlaps nothing clashes with nothing
clash_none : (a b : Shape) → overlap a b ≡ false → clashing a b ≡ false
unfolding clashing
clash_none a b h = and_fails (overlap a b) _ h

pub clash_apart : (a b : Shape) → overlap a b ≡ false → false ≡ clashing a b
clash_apart a b h = sym (clash_none a b h)

pub clash_meet : (a b : Shape) → overlap a b ≡ true → ((writes a or writes b) and non (both_sc a b)) ≡ clashing a b
unfolding clashing
clash_meet a b h = sym (and_holds (overlap a b) _ h)

pub clash_left : (a b : Shape) → a.width ≡ 0 → clashing a b ≡ false
clash_left a b e = clash_none a b (overlap_left a b e)

pub clash_right : (a b : Shape) → b.width ≡ 0 → clashing a b ≡ false
clash_right a b e = clash_none a b (overlap_right a b e)

module _ (t succ : List ℕ) (e d : ℕ) where
  pub free_shut : mem (get_or succ d 0) e ≡ true → false ≡ free_in t succ e d
  unfolding free_in
  free_shut h = sym (and_fails (non (mem (get_or succ d 0) e)) (clash_in t e d) (non_fails _ h))

  pub free_open : mem (get_or succ d 0) e ≡ false → clash_in t e d ≡ free_in t succ e d
  unfolding free_in
  free_open h = sym (and_holds (non (mem (get_or succ d 0) e)) (clash_in t e d) (non_holds _ h))

  open_is : (ahead_in (get_or succ e 0) e d and free_in t succ e d) ≡ open_in t succ e d
  unfolding ahead_in free_in open_in
  open_is = and_assoc (ltb e d) (non (mem (get_or succ e 0) d)) (free_in t succ e d)

-- the mask of those to try
pub ahead_is : (row n e r : ℕ) → Rest row (e + 1) n r → r ≡ picked n (ahead_in row e)
unfolding ahead_in
ahead_is row n e r h = ext_all r (picked n (ahead_in row e)) (λ d. bool_ext (mem r d) (mem (picked n (ahead_in row e)) d) (one d) (two d))
  where
    one : (d : ℕ) → mem r d ≡ true → mem (picked n (ahead_in row e)) d ≡ true
    one d g =
        let w = h.only d g in
        mem_picked n (ahead_in row e) d
        ∙ and_holds (ltb d n) _ (lt-ltb d n w.1)
        ∙ and_holds (ltb e d) _ (lt-ltb e d (let l = w.0 in omega (arith, l)))
        ∙ non_holds (mem row d) w.2

    two : (d : ℕ) → mem (picked n (ahead_in row e)) d ≡ true → mem r d ≡ true
    two d g =
        let w = and_both (ltb d n) _ (sym (mem_picked n (ahead_in row e) d) ∙ g) in
        let v = and_both (ltb e d) (non (mem row d)) w.1 in
        let l = ltb-true e d v.0 in
        h.all d (omega (arith, l)) (ltb-true d n w.0) (false_of _ (λ y. not_both_ways v.1 (non_fails (mem row d) y)))

-- a loop over those to try, of which `left` has the rest
pub partner_start : (t succ : List ℕ) (n e : ℕ) → n ≤ slots → Left (free_in t succ e) (picked n (ahead_in (get_or succ e 0) e)) (picked n (ahead_in (get_or succ e 0) e))
partner_start t succ n e few =
    left_start (free_in t succ e) (picked n (ahead_in (get_or succ e 0) e))
    (lt_of_members slots _ (λ d h. let l = ltb-true d n (and_both (ltb d n) _ (sym (mem_picked n (ahead_in (get_or succ e 0) e) d) ∙ h)).0 in omega arith))

module _ (t succ : List ℕ) (n e : ℕ) (few : n ≤ slots) {left : ℕ} (have : Left (free_in t succ e) (picked n (ahead_in (get_or succ e 0) e)) left) where
  agree : (d : ℕ) → d < n → (mem (picked n (ahead_in (get_or succ e 0) e)) d and free_in t succ e d) ≡ open_in t succ e d
  agree d h =
      ap (λ (x : Bool). x and free_in t succ e d) (mem_picked n (ahead_in (get_or succ e 0) e) d ∙ and_holds (ltb d n) (ahead_in (get_or succ e 0) e d) (lt-ltb d n h)) ∙ open_is t succ e d

  firsts : min (first_of (λ (d : ℕ). mem (picked n (ahead_in (get_or succ e 0) e)) d and free_in t succ e d) slots) n ≡ first_of (open_in t succ e) n
  firsts = first_below (λ (d : ℕ). mem (picked n (ahead_in (get_or succ e 0) e)) d and free_in t succ e d) (open_in t succ e) n slots few agree

  pub partner_hit : (v rest : ℕ) → Taken left v rest → free_in t succ e v ≡ true → Some v ≡ first_some (open_in t succ e) n
  partner_hit v rest k y =
      let h = have.of v k.member in
      let l = ltb-true v n (and_both (ltb v n) (ahead_in (get_or succ e 0) e v) (sym (mem_picked n (ahead_in (get_or succ e 0) e) v) ∙ h)).0 in
      let z = (some_is (λ (d : ℕ). mem (picked n (ahead_in (get_or succ e 0) e)) d and free_in t succ e d) slots (Some v) v (left_hit have v rest k y) refl).0 in
      let f = firsts in
      let q : v ≡ first_of (open_in t succ e) n = omega arith in
      ap Some q ∙ some_at (open_in t succ e) n (omega arith)

  pub partner_end : left ≡ 0 → None ≡ first_some (open_in t succ e) n
  partner_end z =
      let y = none_is (λ (d : ℕ). mem (picked n (ahead_in (get_or succ e 0) e)) d and free_in t succ e d) slots None (left_end have z) refl in
      let f = firsts in
      none_at (open_in t succ e) n (omega arith)

-- what the search for a partner says
module _ (t succ : List ℕ) (n e : ℕ) (h : e < slots) (o : Option ℕ) (is : o ≡ first_some (open_in t succ (e % slots)) n) where
  same_event : o ≡ first_some (open_in t succ e) n
  same_event = is ∙ ap (λ (x : ℕ). first_some (open_in t succ x) n) (mod-eq_of_lt h)

  pub partner_is : (d : ℕ) → o ≡ Some d → (d ≡ partner_in t succ n e) × (d < n)
  partner_is d f = some_is (open_in t succ e) n o d same_event f

  pub partner_no : o ≡ None → loose_in t succ n e ≡ false
  partner_no f = le-ltb (partner_in t succ n e) n (none_is (open_in t succ e) n o same_event f)

module _ (t succ : List ℕ) (n e : ℕ) (before : (d : ℕ) → d < e → loose_in t succ n d ≡ false) where
  pub settled_found : e < n → partner_in t succ n e < n → Unsettled e (partner_in t succ n e) ≡ settled_in t succ n
  unfolding settled_in
  settled_found h k =
      let y : e ≡ first_of (loose_in t succ n) n = first_found (loose_in t succ n) n e h before (lt-ltb (partner_in t succ n e) n k) in
      ap (λ (i : ℕ). Unsettled i (partner_in t succ n i)) y
      ∙ sym (ap (λ (b : Bool). cond b (Unsettled (first_of (loose_in t succ n) n) (partner_in t succ n (first_of (loose_in t succ n) n))) Orderly) (lt-ltb (first_of (loose_in t succ n) n) n (omega arith)))

  pub settled_none : n ≤ e → Orderly ≡ settled_in t succ n
  unfolding settled_in
  settled_none h =
      let y : n ≡ first_of (loose_in t succ n) n = first_past (loose_in t succ n) n e h before in
      sym (ap (λ (b : Bool). cond b (Unsettled (first_of (loose_in t succ n) n) (partner_in t succ n (first_of (loose_in t succ n) n))) Orderly) (le-ltb (first_of (loose_in t succ n) n) n (omega arith)))
