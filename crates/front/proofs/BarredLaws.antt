-- The bars in the tables are the model's bars, for events with any number of accesses. Assumes nothing.
--     matches_at      an access with an equal range at a byte is the event's access at that byte
--     row_bars_lem        a row bars the same events by the tables and by the model
--     row_barred      the same of a row of the execution
--     barred          the table of masks holds the model's bars
use mathlib.Core.Path.{◌≡◌, refl, sym, ap, ◌∙◌, subst}
use mathlib.Core.Bool.{Bool, true, false}
use mathlib.Core.Logic.{⊎_elim}
use mathlib.Core.List.{List, Memᴰ}
use Prim.Native.Nat.{ℕ, ◌+◌, ◌*◌, ◌<◌, ◌≤◌}
use native.Mathlib.Omega.{arith}
use borrow.Author.Tests.{lt-ltb, ltb-false}
use lib.Dec.{T, eqb, ltb}
use lib.ListN.{get_or, replicate}
use Rattle.basis.specs.Test.{◌and◌, ◌or◌, non, any, from}
use Rattle.basis.proofs.BoolLaws.{and_elim, and_intro, or_cases, or_left, or_right, same_test, T_true, and_holds, and_fails, by_bool, not_both_ways, and_false}
use Rattle.basis.proofs.ListLaws.{each_mem}
use Rattle.basis.proofs.LoopLaws.{any_same, any_each}
use Rattle.format.specs.declared.Shape.{Shape}
use Rattle.format.specs.declared.Row.{Row}
use Rattle.format.specs.Shape.{writes, sc, covers, equal, both_sc}
use Rattle.format.specs.Event.{Event, shape_at, writes_at}
use Rattle.format.specs.Execution.{Execution, event}
use Rattle.format.proofs.EventLaws.{writes_at_nobody}
use Rattle.format.proofs.ShapeLaws.{equal_sym, covers_equal}
use Rattle.format.proofs.ExecutionLaws.{event_out, reads_covers, writes_covers}
use Rattle.sets.specs.Mask.{slots, mem}
use Rattle.tables.proofs.TablesLaws.{slot_below}
use Rattle.model.specs.Events.{at_row}
use Rattle.model.specs.Happens.{row_syncs}
use Rattle.model.specs.Bar.{bar_a, bar_b, bar_c, row_bars, bar}
use Rattle.model.proofs.Sound.{Sound}
use Rattle.model.proofs.HappensLaws.{reader_inside, writer_inside}
use Rattle.tables.specs.Tables.{shape_in, slot_in, at_in, row_in}
use Rattle.alike.specs.Ranges.{hits, sharing, matches}
use Rattle.bars.specs.Bars.{reasons, row_bars_in, filled_in}
use Rattle.bars.proofs.BarsLaws.{filled_holds}
use Rattle.front.specs.Tabled.{Tabled, Rowed, hb_of, Turned}
use Rattle.front.proofs.TabledLaws.{at_first, at_second, at_cases, at_slot_of}

-- ---- tests, turned into the model's order

four : (a b c d : Bool) → ((a and b) and (c and d)) ≡ (a and d and b and c)
unfolding ◌and◌
four false b c d = refl
four true false c true = refl
four true false c false = refl
four true true true true = refl
four true true true false = refl
four true true false true = refl
four true true false false = refl

-- c, s, w: V covers the byte, is sc, writes; e1, e2: it has the range of R's, of W's access
sorted : (c s w e1 e2 p wr sa sb vr wv : Bool)
    → ((p and (c and s and w and e1)) or ((wr and sb) and ((c and s and w and e2) and vr)) or ((wr and sa) and ((c and s and w and e1) and wv)))
    ≡ ((c and w) and (s and ((p and e1) or (wr and vr and sb and e2) or (wr and wv and sa and e1))))
unfolding ◌and◌ ◌or◌
sorted true true true e1 e2 p wr sa sb vr wv = simp (four wr sb e2 vr, four wr sa e1 wv)
sorted true true false e1 e2 p wr sa sb vr wv = simp (and_false p, and_false (wr and sb), and_false (wr and sa))
sorted true false true e1 e2 p wr sa sb vr wv = simp (and_false p, and_false (wr and sb), and_false (wr and sa))
sorted true false false e1 e2 p wr sa sb vr wv = simp (and_false p, and_false (wr and sb), and_false (wr and sa))
sorted false s w e1 e2 p wr sa sb vr wv = simp (and_false p, and_false (wr and sb), and_false (wr and sa))

-- an end's set counts only where the end is sc
reasons_sc : (p q e x y wr vr wv : Bool)
    → (((q and p and e) and (p and x)) or ((wr and q) and ((q and y) and vr)) or ((wr and p) and ((p and x) and wv)))
    ≡ (((q and p and e) and x) or ((wr and q) and (y and vr)) or ((wr and p) and (x and wv)))
unfolding ◌and◌ ◌or◌
reasons_sc true true e x y wr vr wv = refl
reasons_sc true false e x y true vr wv = refl
reasons_sc true false e x y false vr wv = refl
reasons_sc false true e x y true vr wv = refl
reasons_sc false true e x y false vr wv = refl
reasons_sc false false e x y true vr wv = refl
reasons_sc false false e x y false vr wv = refl

equal_turn : (a b : Shape) → equal a b ≡ equal b a
equal_turn a b = same_test (equal a b) (equal b a) (equal_sym a b) (equal_sym b a)

module _ (x : Execution) (t : List ℕ) (n : ℕ) (tb : Tabled x t n) where
  -- ---- an event with an equal range

  module _ (k v a : ℕ) (h : v < slots) (c : T (covers (shape_in t k) a)) where
    abbrev S : Shape
    S = at_in t v a

    abbrev K : Shape
    K = shape_in t k

    tests : (s : Shape) → S ≡ s → T (hits s K) → T (covers s a) → T (covers S a and sc S and writes S and equal S K)
    unfolding hits
    tests s e g d =
        let p = and_elim _ _ g in
        let q = and_elim _ _ p.1 in
        subst (λ (z : Shape). T (covers z a and sc z and writes z and equal z K)) (sym e) (and_intro _ _ d (and_intro _ _ p.0 (and_intro _ _ q.0 q.1)))

    covering : (s : Shape) → T (hits s K) → T (covers s a)
    unfolding hits
    covering s g =
        let q = and_elim _ _ (and_elim _ _ g).1 in covers_equal K s a (equal_sym s K q.1) c

    forth : T (sharing t K v) → T (covers S a and sc S and writes S and equal S K)
    unfolding sharing
    forth g =
        ⊎_elim (λ f. let d = covering (shape_in t (2 * v)) f in tests (shape_in t (2 * v)) (at_first t v a (T_true _ d)) f d)
        (λ f. let d = covering (shape_in t (2 * v + 1)) f in
        tests (shape_in t (2 * v + 1))
        (at_second t v a (by_bool (covers (shape_in t (2 * v)) a) (λ b. absurd (not_both_ways (T_true _ d) (tb.apart v a h b))) (λ b. b)) (T_true _ d)) f d)
        (or_cases _ _ g)

    back : T (covers S a and sc S and writes S and equal S K) → T (sharing t K v)
    unfolding sharing hits
    back g =
        let p = and_elim (covers S a) (sc S and writes S and equal S K) g in
        ⊎_elim
        (λ e. or_left _ _ (subst (λ (z : Shape). T (sc z and writes z and equal z K)) e p.1))
        (λ e. or_right _ _ (subst (λ (z : Shape). T (sc z and writes z and equal z K)) e p.1))
        (at_cases t v a (T_true _ p.0))

    pub sharing_at : sharing t (shape_in t k) v ≡ (covers (at_in t v a) a and sc (at_in t v a) and writes (at_in t v a) and equal (at_in t v a) (shape_in t k))
    sharing_at = same_test _ _ forth back

    pub matches_at : k < 2 * n → matches t n k v ≡ (sc (shape_in t k) and (covers (at_in t v a) a and sc (at_in t v a) and writes (at_in t v a) and equal (at_in t v a) (shape_in t k)))
    unfolding matches
    matches_at l = and_holds (ltb k (2 * n)) _ (lt-ltb k (2 * n) l) ∙ ap (λ (z : Bool). sc (shape_in t k) and z) sharing_at

  -- ---- a row

  module _ (succ pred : List ℕ) (turned : Turned succ pred) (r : Row) (v : ℕ) (h : v < slots) (hr : r.reader < n) (hw : r.writer < n)
      (cr : T (covers (shape_at (event x r.reader) r.address) r.address)) (cw : T (covers (shape_at (event x r.writer) r.address) r.address)) where
    abbrev A : ℕ
    A = r.address

    abbrev a : Shape
    a = shape_in t (slot_in t r.reader r.address)

    abbrev b : Shape
    b = shape_in t (slot_in t r.writer r.address)

    abbrev s : Shape
    s = at_in t v r.address

    is_a : at_row x r r.reader ≡ a
    unfolding at_row
    is_a =
        let y = tb.few in let e = tb.shape_at_lem r.reader A (omega arith) in e ∙ sym (at_slot_of t r.reader A (ap (λ (z : Shape). covers z A) (sym e) ∙ T_true _ cr))

    is_b : at_row x r r.writer ≡ b
    unfolding at_row
    is_b =
        let y = tb.few in let e = tb.shape_at_lem r.writer A (omega arith) in e ∙ sym (at_slot_of t r.writer A (ap (λ (z : Shape). covers z A) (sym e) ∙ T_true _ cw))

    is_s : at_row x r v ≡ s
    unfolding at_row
    is_s = tb.shape_at_lem v A h

    covers_a : T (covers a A)
    unfolding at_row
    covers_a = subst (λ (z : Shape). T (covers z A)) is_a cr

    covers_b : T (covers b A)
    unfolding at_row
    covers_b = subst (λ (z : Shape). T (covers z A)) is_b cw

    wr : Bool
    wr = mem (get_or succ r.writer 0) r.reader

    vr : Bool
    vr = mem (get_or pred r.reader 0) v

    wv : Bool
    wv = mem (get_or succ r.writer 0) v

    -- what the model asks, over three shapes
    abbrev asked : Shape → Shape → Shape → Bool → Bool
    asked S R W d =
        (covers S r.address and writes S)
        and (sc S
        and ((both_sc W R and equal S R) or (mem (get_or succ r.writer 0) r.reader and d and sc W and equal W S)
        or (mem (get_or succ r.writer 0) r.reader and mem (get_or succ r.writer 0) v and sc R and equal S R)))

    model_asks : (writes_at (event x v) r.address and sc (at_row x r v) and (bar_a x r v or bar_b x (hb_of succ) r v or bar_c x (hb_of succ) r v)) ≡ asked s a b (mem (get_or pred r.reader 0) v)
    unfolding writes_at bar_a bar_b bar_c row_syncs at_row
    model_asks = λ i. asked (is_s i) (is_a i) (is_b i) (sym (turned v r.reader) i)

    tables_ask : reasons a b (matches t n (slot_in t r.reader r.address) v) (matches t n (slot_in t r.writer r.address) v) (mem (get_or succ r.writer 0) r.reader) (mem (get_or pred r.reader 0) v) (mem (get_or succ r.writer 0) v)
        ≡ asked s a b (mem (get_or pred r.reader 0) v)
    unfolding reasons both_sc
    tables_ask =
        simp (matches_at (slot_in t r.reader r.address) v r.address h covers_a (slot_below t r.reader r.address n hr), matches_at (slot_in t r.writer r.address) v r.address h covers_b (slot_below t r.writer r.address n hw))
        (reasons_sc (sc a) (sc b) (equal b a) (covers s A and sc s and writes s and equal s a) (covers s A and sc s and writes s and equal s b) (mem (get_or succ r.writer 0) r.reader) (mem (get_or pred r.reader 0) v) (mem (get_or succ r.writer 0) v)
        ∙ sorted (covers s A) (sc s) (writes s) (equal s a) (equal s b) (both_sc b a) (mem (get_or succ r.writer 0) r.reader) (sc a) (sc b) (mem (get_or pred r.reader 0) v) (mem (get_or succ r.writer 0) v)
        ∙ ap (λ (z : Bool). (covers s A and writes s) and (sc s
        and ((both_sc b a and equal s a) or (mem (get_or succ r.writer 0) r.reader and mem (get_or pred r.reader 0) v and sc b and z)
        or (mem (get_or succ r.writer 0) r.reader and mem (get_or succ r.writer 0) v and sc a and equal s a)))) (equal_turn s b))

    beyond : n ≤ v → (writes_at (event x v) r.address and sc (at_row x r v) and (bar_a x r v or bar_b x (hb_of succ) r v or bar_c x (hb_of succ) r v)) ≡ false
    beyond l =
        let z = tb.count in
        and_fails (writes_at (event x v) r.address) _ (ap (λ (d : Event). writes_at d r.address) (event_out x v (omega arith)) ∙ writes_at_nobody r.address)

    pub row_bars_lem : row_bars_in t n succ pred r v ≡ row_bars x (hb_of succ) r v
    unfolding row_bars_in row_bars
    row_bars_lem =
        ap (λ (z : Bool). non (eqb v r.reader) and non (eqb v r.writer) and z)
        (by_bool (ltb v n) (λ e. and_holds (ltb v n) _ e ∙ tables_ask ∙ sym model_asks) (λ e. and_fails (ltb v n) _ e ∙ sym (beyond (ltb-false v n e))))

  -- ---- the whole table

  module _ (succ pred : List ℕ) (so : Sound x) (turned : Turned succ pred) where
    -- a row of the execution
    pub row_barred : (p : Row) → Memᴰ p x.rows → (v : ℕ) → v < slots → row_bars_in t n succ pred p v ≡ row_bars x (hb_of succ) p v
    row_barred p i v hv =
        let z = tb.count in
        let y = tb.few in
        let dr = reader_inside x so p i in
        let dw = writer_inside x so p i in
        row_bars_lem succ pred turned p v hv (omega arith) (omega arith) (reads_covers _ _ (so.row_reads p i)) (writes_covers _ _ (so.row_writes p i))

  module _ (succ pred q : List ℕ) (m : ℕ) (so : Sound x) (rowed : Rowed x q m) (turned : Turned succ pred) where
    pub barred : (r w v : ℕ) → w < slots → v < slots → mem (get_or (filled_in t n succ pred q m (replicate (slots * slots) 0)) (v * slots + w) 0) r ≡ bar x (hb_of succ) r w v
    unfolding bar
    barred r w v hw hv =
        filled_holds t succ pred q n m tb.few v w r hv hw
        ∙ any_same (λ (j : ℕ). eqb (row_in q j).reader r and eqb (row_in q j).writer w and row_bars_in t n succ pred (row_in q j) v)
        (λ (j : ℕ). eqb (row_in q j).reader r and eqb (row_in q j).writer w and row_bars x (hb_of succ) (row_in q j) v) (from 0 m)
        (λ j k. ap (λ (z : Bool). eqb (row_in q j).reader r and eqb (row_in q j).writer w and z) (same j k))
        ∙ sym (any_each (λ (p : Row). eqb p.reader r and eqb p.writer w and row_bars x (hb_of succ) p v) (row_in q) (from 0 m))
        ∙ ap (any (λ (p : Row). eqb p.reader r and eqb p.writer w and row_bars x (hb_of succ) p v)) (sym rowed)
      where
        same : (j : ℕ) → Memᴰ j (from 0 m) → row_bars_in t n succ pred (row_in q j) v ≡ row_bars x (hb_of succ) (row_in q j) v
        same j k =
            row_barred succ pred so turned (row_in q j) (subst (λ (l : List Row). Memᴰ (row_in q j) l) (sym rowed) (each_mem (row_in q) (from 0 m) j k)) v hv
