-- The laws of specs/steps/Press.antt. Assumes nothing.
--     presses_none              nothing pressed
--     presses_first, presses_other     one bar, as the code presses it
--     presses_more              a bar of an entry after others
--     entry_in                  the members of an entry's set that are events and no inits
--     presses_listed            an entry of a list
--     list_fits, list_unfit     what the test of the numbers tells
use Rattle.std.proofs.Common.{◌≡◌, ℕ, ◌%◌, ◌<◌, ◌≤◌, min, Bool, true, false, cond, ◌||◌, ltb, List, length, get_or, set, sym, refl, ap, ◌∙◌, ⊎_elim, mod-eq_of_lt, arith, length-set, ltb-false, ltb-true}
use lib.Bits.{bit_and}
use Rattle.basis.proofs.BoolLaws.{not_both_ways, false_of, and_parts, bar_left, bar_right, bar_cases}
use Rattle.sets.specs.Mask.{slots, mem, Has, insert, Rest}
use Rattle.sets.proofs.MaskLaws.{mem_and}
use Rattle.orders.specs.Tables.{tabled}
use Rattle.orders.specs.Listed.{list_room, listed_bars}
use Rattle.force.specs.Forced.{Forced}
use Rattle.force.specs.steps.Press.{AtOne, AtEach, Presses}
use Rattle.force.proofs.ForcedLaws.{numbers_fit, numbers_unfit, bar_first, press_other}
use Rattle.orders.proofs.ListedLaws.{listed_intro}

module _ {k m : ℕ} {f : List ℕ} (size : length f ≡ slots) where
  pub presses_none : {A : List ℕ → Type 0} → Presses k m A f f
  presses_none = record { size = size; still = λ before bars a i. i }

  module _ (r w v : ℕ) (far : k ≤ v) (event : v < m) (writer : w < m) (few : m ≤ slots) (b : Bool) where
    pub presses_first : r < slots → b ≡ mem (get_or f v 0) (w % slots) → (ltb w k || b) ≡ true → (c : Bool) → c ≡ mem (get_or f r 0) (v % slots)
        → Presses k m (AtOne r w v) f (set f v (cond c (insert (insert (get_or f v 0) (r % slots)) (v % slots)) (insert (get_or f v 0) (r % slots))))
    presses_first rs is h c back =
        record {
          size = length-set f v _ ∙ size;
          still = λ before bars a i. bar_first m k before bars i w v (omega arith) (omega arith) event writer far b is h r rs a c back;
        }

    pub presses_other : (ltb w k || b) ≡ false → (w ≡ v → ⊥) → mem (get_or f r 0) (v % slots) ≡ true
        → Presses k m (AtOne r w v) f (set f w (insert (get_or f w 0) (v % slots)))
    presses_other h apart waits =
        record {
          size = length-set f w _ ∙ size;
          still = λ before bars a i. press_other m k before bars i w v (omega arith) (omega arith) event writer b h apart r a
              (ap (mem (get_or f r 0)) (sym (mod-eq_of_lt (omega arith))) ∙ waits);
        }

pub presses_more : {k m : ℕ} (r w v b : ℕ) {f g h : List ℕ} → v < m → Has b v → Presses k m (AtEach m r w b) f g → Presses k m (AtOne r w v) g h → Presses k m (AtEach m r w b) f h
presses_more r w v b l q p o = record { size = o.size; still = λ before bars a i. o.still before bars (a v l q) (p.still before bars a i) }

module _ {k m x : ℕ} (few : m ≤ slots) (u : Rest 0 k (min m slots) x) (b : ℕ) where
  pub entry_in : (v : ℕ) → Has (bit_and x b) v → (k ≤ v) × (v < m) × Has b v
  entry_in v h =
      let p = and_parts _ _ (sym (mem_and x b v) ∙ h) in
      let o = u.only v p.0 in
      (o.0, omega (arith, o.1, few), p.1)

module _ (m k : ℕ) (before between readers writers : List ℕ) (n i : ℕ) (few : m ≤ slots) (in_List : i < n) {f g : List ℕ} where
  pub presses_listed : Presses k m (AtEach m (get_or readers i 0 % slots) (get_or writers i 0 % slots) (get_or between i 0)) f g
      → Forced (tabled m before (listed_bars between readers writers n)) k before f → Forced (tabled m before (listed_bars between readers writers n)) k before g
  presses_listed p =
      p.still before (listed_bars between readers writers n)
      (λ v l h. listed_intro between readers writers v _ _ (omega arith) (omega (arith, l, few)) n i in_List (record { member = h; writer = refl; reader = refl }))

-- whether the numbers fit
module _ (k m n : ℕ) where
  pub list_fits : ((ltb m k || ltb slots m) || ltb list_room n) ≡ false → (k ≤ m) × (m ≤ slots) × (n ≤ list_room)
  list_fits h =
      let a = numbers_fit k m (false_of _ (λ z. not_both_ways (bar_left _ _ z) h)) in
      (a.0, a.1, ltb-false list_room n (false_of _ (λ z. not_both_ways (bar_right (ltb m k || ltb slots m) _ z) h)))

  pub list_unfit : ((ltb m k || ltb slots m) || ltb list_room n) ≡ true → (k ≤ m) × (m ≤ slots) × (n ≤ list_room) → ⊥
  list_unfit h f =
      ⊎_elim (λ z. numbers_unfit k m z (f.0, f.1)) (λ z. let l = ltb-true list_room n z in omega (arith, l, f.2)) (bar_cases (ltb m k || ltb slots m) _ h)
