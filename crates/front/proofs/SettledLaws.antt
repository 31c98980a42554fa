-- The lowest unsettled pair over the tables is the model's, for events whose accesses do not overlap. Assumes nothing.
--     clash_is, open_is     two events clash, are unsettled, by the tables and by the model
--     settled               what the tables answer is what the model answers
use mathlib.Core.Path.{◌≡◌, sym, ap, ◌∙◌, subst}
use mathlib.Core.Bool.{Bool, true, false}
use mathlib.Core.Logic.{◌⊎◌, inl, inr, ⊎_elim}
use mathlib.Core.List.{List, Memᴰ}
use Prim.Native.Nat.{ℕ, ◌+◌, ◌*◌, ◌<◌, ◌≤◌}
use native.Mathlib.Omega.{arith}
use borrow.Author.Tests.{ltb-true, ltb-false}
use lib.Dec.{T, ltb}
use lib.ListN.{length}
use Rattle.basis.specs.Test.{◌and◌, non, find, across, from}
use Rattle.basis.proofs.BoolLaws.{and_elim, or_cases, or_left, or_right, same_test, true_T, T_true, by_bool, not_both_ways}
use Rattle.basis.proofs.FindLaws.{least_pair, no_pair_lem}
use Rattle.format.specs.declared.Shape.{Shape}
use Rattle.format.specs.Shape.{covers, overlap}
use Rattle.format.specs.Event.{Access, shape_at}
use Rattle.format.specs.Execution.{Execution, event}
use Rattle.sets.specs.Mask.{slots}
use Rattle.cells.specs.First.{first_of}
use Rattle.cells.proofs.FirstLaws.{first_of_lem}
use Rattle.model.specs.Events.{numbers, any_two}
use Rattle.model.specs.Unsettled.{clash, unsettled, unsettled_pair}
use Rattle.model.specs.Judged.{settled_of}
use Rattle.model.proofs.EventsLaws.{two_elim, two_at}
use Rattle.model.proofs.UnsettledLaws.{unsettled_inside}
use Rattle.tables.specs.Tables.{shape_in, at_in}
use Rattle.settle.specs.Settle.{clashing, clash_in, open_in, partner_in, loose_in, settled_in}
use Rattle.settle.proofs.SettleLaws.{settled_found, settled_none}
use Rattle.front.specs.Tabled.{Tabled, Owned, hb_of}
use Rattle.front.proofs.TabledLaws.{at_first, at_second, at_cases}
use Rattle.front.proofs.OrderedLaws.{overlap_byte}

module _ (x : Execution) (t : List ℕ) (n : ℕ) (tb : Tabled x t n) (own : Owned x) where
  -- the access in a slot that covers a byte is the event's at that byte
  first_at : (v k : ℕ) → v < slots → T (covers (shape_in t (2 * v)) k) → shape_in t (2 * v) ≡ shape_at (event x v) k
  first_at v k h c = sym (tb.shape_at_lem v k h ∙ at_first t v k (T_true _ c))

  second_at : (v k : ℕ) → v < slots → T (covers (shape_in t (2 * v + 1)) k) → shape_in t (2 * v + 1) ≡ shape_at (event x v) k
  second_at v k h c =
      sym (tb.shape_at_lem v k h
      ∙ at_second t v k (by_bool (covers (shape_in t (2 * v)) k) (λ b. absurd (not_both_ways (T_true _ c) (tb.apart v k h b))) (λ b. b)) (T_true _ c))

  clash_overlap : (a b : Shape) → T (clash a b) → T (overlap a b)
  unfolding clash
  clash_overlap a b h = (and_elim _ _ h).0

  to_clash : (a b : Shape) → T (clashing a b) → T (clash a b)
  unfolding clashing clash
  to_clash a b h = h

  to_clashing : (a b : Shape) → T (clash a b) → T (clashing a b)
  unfolding clashing clash
  to_clashing a b h = h

  module _ (e d : ℕ) (he : e < slots) (hd : d < slots) where
    -- by two slots' accesses that are the events' at the byte they share
    by_slots : (a b : Shape) → ((k : ℕ) → T (covers a k) → a ≡ shape_at (event x e) k) → ((k : ℕ) → T (covers b k) → b ≡ shape_at (event x d) k)
        → T (clashing a b) → T (any_two clash (event x e) (event x d))
    by_slots a b f g h =
        let c = to_clash a b h in
        let w = overlap_byte a b (clash_overlap a b c) in
        let p = f w.0 w.1 in
        let q = g w.0 w.2 in
        two_at clash (event x e) (event x d) w.0
        (subst (λ (s : Shape). T (covers s w.0)) p w.1) (subst (λ (s : Shape). T (covers s w.0)) q w.2)
        (subst (λ (s : Shape). T (clash (shape_at (event x e) w.0) s)) q (subst (λ (s : Shape). T (clash s b)) p c))

    back : T (clash_in t e d) → T (any_two clash (event x e) (event x d))
    unfolding clash_in
    back h =
        ⊎_elim
        (λ g. ⊎_elim
        (λ f. by_slots (shape_in t (2 * e)) (shape_in t (2 * d)) (λ k c. first_at e k he c) (λ k c. first_at d k hd c) f)
        (λ f. by_slots (shape_in t (2 * e)) (shape_in t (2 * d + 1)) (λ k c. first_at e k he c) (λ k c. second_at d k hd c) f)
        (or_cases _ _ g))
        (λ g. ⊎_elim
        (λ f. by_slots (shape_in t (2 * e + 1)) (shape_in t (2 * d)) (λ k c. second_at e k he c) (λ k c. first_at d k hd c) f)
        (λ f. by_slots (shape_in t (2 * e + 1)) (shape_in t (2 * d + 1)) (λ k c. second_at e k he c) (λ k c. second_at d k hd c) f)
        (or_cases _ _ g))
        (or_cases _ _ h)

    share : (a b : Shape) → (a ≡ shape_in t (2 * e)) ⊎ (a ≡ shape_in t (2 * e + 1)) → (b ≡ shape_in t (2 * d)) ⊎ (b ≡ shape_in t (2 * d + 1)) → T (clashing a b) → T (clash_in t e d)
    unfolding clash_in
    share a b (inl p) (inl q) h = or_left _ _ (or_left _ _ (subst (λ (s : Shape). T (clashing (shape_in t (2 * e)) s)) q (subst (λ (s : Shape). T (clashing s b)) p h)))
    share a b (inl p) (inr q) h = or_left _ _ (or_right _ _ (subst (λ (s : Shape). T (clashing (shape_in t (2 * e)) s)) q (subst (λ (s : Shape). T (clashing s b)) p h)))
    share a b (inr p) (inl q) h = or_right _ _ (or_left _ _ (subst (λ (s : Shape). T (clashing (shape_in t (2 * e + 1)) s)) q (subst (λ (s : Shape). T (clashing s b)) p h)))
    share a b (inr p) (inr q) h = or_right _ _ (or_right _ _ (subst (λ (s : Shape). T (clashing (shape_in t (2 * e + 1)) s)) q (subst (λ (s : Shape). T (clashing s b)) p h)))

    -- an access of event v that covers a byte stands in one of its slots
    slot_of : (v k : ℕ) → v < slots → (a : Access) → Memᴰ a (event x v).accesses → T (covers a.shape k) → (a.shape ≡ shape_in t (2 * v)) ⊎ (a.shape ≡ shape_in t (2 * v + 1))
    slot_of v k h a m c =
        let y : a.shape ≡ at_in t v k = own v a k m c ∙ tb.shape_at_lem v k h in
        ⊎_elim (λ z. inl (y ∙ z)) (λ z. inr (y ∙ z)) (at_cases t v k (T_true _ (subst (λ (s : Shape). T (covers s k)) y c)))

    forth : T (any_two clash (event x e) (event x d)) → T (clash_in t e d)
    forth h =
        let w = two_elim clash (event x e) (event x d) h in
        let b = overlap_byte w.0.shape w.2.shape (clash_overlap w.0.shape w.2.shape w.4) in
        share w.0.shape w.2.shape (slot_of e b.0 he w.0 w.1 b.1) (slot_of d b.0 hd w.2 w.3 b.2) (to_clashing w.0.shape w.2.shape w.4)

    pub clash_is : any_two clash (event x e) (event x d) ≡ clash_in t e d
    clash_is = same_test _ _ forth back

  module _ (succ : List ℕ) where
    pub open_is : (e d : ℕ) → e < n → d < n → unsettled x (hb_of succ) e d ≡ open_in t succ e d
    unfolding unsettled open_in
    open_is e d he hd =
        let few = tb.few in
        ap (λ (z : Bool). ltb e d and non (hb_of succ e d) and non (hb_of succ d e) and z) (clash_is e d (omega arith) (omega arith))

    open_out : (e d : ℕ) → n ≤ d → unsettled x (hb_of succ) e d ≡ false
    open_out e d h =
        by_bool (unsettled x (hb_of succ) e d)
        (λ y. absurd (let w = unsettled_inside x (hb_of succ) e d (true_T _ y) in let z = tb.count in omega (arith, w.1)))
        (λ y. y)

    low_out : (e d : ℕ) → n ≤ e → unsettled x (hb_of succ) e d ≡ false
    low_out e d h =
        by_bool (unsettled x (hb_of succ) e d)
        (λ y. absurd (let w = unsettled_inside x (hb_of succ) e d (true_T _ y) in let z = tb.count in omega (arith, w.0)))
        (λ y. y)

    abbrev pairs : ℕ × ℕ → Bool
    pairs p = unsettled x (hb_of succ) p.0 p.1

    none_of : (e : ℕ) → e < n → loose_in t succ n e ≡ false → (d : ℕ) → unsettled x (hb_of succ) e d ≡ false
    none_of e he l d =
        by_bool (ltb d n)
        (λ y. let k = ltb-true d n y in let z = ltb-false (partner_in t succ n e) n l in open_is e d he k ∙ (first_of_lem (open_in t succ e) n).least d (omega arith))
        (λ y. open_out e d (ltb-false d n y))

    pub settled : settled_in t succ n ≡ settled_of (unsettled_pair x (hb_of succ))
    unfolding unsettled_pair settled_of numbers
    settled = by_bool (ltb (first_of (loose_in t succ n) n) n) found (λ y. lost (ltb-false (first_of (loose_in t succ n) n) n y))
      where
        found : ltb (first_of (loose_in t succ n) n) n ≡ true → settled_in t succ n ≡ settled_of (find pairs (across (from 0 (length x.events)) (from 0 (length x.events))))
        found y =
            let f = first_of_lem (loose_in t succ n) n in
            let h = ltb-true (first_of (loose_in t succ n) n) n y in
            let k = ltb-true (partner_in t succ n (first_of (loose_in t succ n) n)) n (f.passes h) in
            let g = first_of_lem (open_in t succ (first_of (loose_in t succ n) n)) n in
            sym (settled_found t succ n (first_of (loose_in t succ n) n) f.least h k)
            ∙ sym (ap settled_of (ap (λ (j : ℕ). find pairs (across (from 0 j) (from 0 j))) tb.count
            ∙ least_pair pairs n (first_of (loose_in t succ n) n) (partner_in t succ n (first_of (loose_in t succ n) n))
            (open_is (first_of (loose_in t succ n) n) (partner_in t succ n (first_of (loose_in t succ n) n)) h k ∙ g.passes k)
            (λ d b l. none_of d (omega arith) (f.least d l) b)
            (λ b l. open_is (first_of (loose_in t succ n) n) b h (omega arith) ∙ g.least b l) h k))

        lost : n ≤ first_of (loose_in t succ n) n → settled_in t succ n ≡ settled_of (find pairs (across (from 0 (length x.events)) (from 0 (length x.events))))
        lost h =
            let f = first_of_lem (loose_in t succ n) n in
            sym (settled_none t succ n (first_of (loose_in t succ n) n) f.least h)
            ∙ sym (ap settled_of (ap (λ (j : ℕ). find pairs (across (from 0 j) (from 0 j))) tb.count
            ∙ no_pair_lem pairs n (λ d b. by_bool (ltb d n) (λ y. none_of d (ltb-true d n y) (f.least d (let l = ltb-true d n y in omega arith)) b) (λ y. low_out d b (ltb-false d n y)))))
