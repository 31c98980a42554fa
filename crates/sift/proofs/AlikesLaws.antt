-- The laws of specs/steps/Alikes.antt. Assumes nothing.
--     gained_none, gained_next     it begins; a writer more
--     alikes_agree                 where no event has a second access, the masks are those of crate alike
--     agree_reader, agree_writer   those of a row's two events
--     reasons_bare                 what a row bars, where a set is empty for an access that is not sc
use mathlib.Core.Path.{◌≡◌, refl, sym, ap, ap₂, ◌∙◌}
use mathlib.Core.Bool.{Bool, true, false, cond, ◌&&◌}
use mathlib.Core.List.{List}
use Prim.Native.Nat.{ℕ, ◌+◌, ◌*◌, ◌%◌, ◌^◌, ◌≤◌, ◌<◌}
use native.Mathlib.Omega.{arith}
use borrow.Author.Tests.{ne_eqb, eqb-true, lt-ltb, ltb-true, ltb-false, leb-true}
use lib.Bits.{bit_and, bit_or, or_zero_l, and_zero_l}
use lib.Dec.{eqb, ltb, leb}
use lib.ListN.{get_or, replicate, length-replicate, get_or-replicate}
use Rattle.basis.specs.Test.{◌and◌, ◌or◌}
use Rattle.basis.proofs.BoolLaws.{by_bool, bool_ext, not_both_ways, false_of, amp_and, and_holds, and_fails, and_true, and_both, both_hold, or_none}
use Rattle.format.specs.declared.Shape.{Shape}
use Rattle.format.specs.declared.Row.{Row}
use Rattle.format.specs.Shape.{sc, writes, equal, both_sc, covers}
use Rattle.sets.specs.Mask.{slots, mem, Has, remove}
use Rattle.sets.proofs.MaskLaws.{mem_empty, remove_old, remove_lt, ext_all}
use Rattle.cells.specs.Cells.{placing}
use Rattle.cells.proofs.WalkLaws.{mem_picked}
use Rattle.cells.proofs.CellsLaws.{placing_length, placing_at, placing_beyond}
use Rattle.tables.specs.Tables.{shape_in}
use Rattle.own.specs.Lone.{Lone}
use Rattle.alike.specs.Ranges.{hits, sharing, sc_writes, match, equals_in, matches}
use Rattle.alike.proofs.KeysLaws.{key_sc, key_equal}
use Rattle.alike.proofs.RangesLaws.{gains_mem, equals_mem}
use Rattle.bars.specs.Bars.{reasons_in}
use Rattle.bars.specs.steps.Covered.{covered_in}
use Rattle.sift.specs.steps.Noted.{first_key, NotedIn}
use Rattle.sift.specs.steps.Alikes.{Gained, Bare, Agrees}
use Rattle.sift.proofs.LeftLaws.{done_none, done_next, done_all}

pub gained_none : (by : List ℕ) (ws : ℕ) → ws < 2 ^ slots → Gained by ws ws (replicate slots 0)
gained_none by ws h =
    record {
      size = length-replicate {A = ℕ} slots 0;
      width = h;
      of = λ v p. p;
      each = λ e v l. ap (λ (m : ℕ). mem m v) (get_or-replicate slots e 0 0 l) ∙ mem_empty v ∙ sym (done_none (mem ws v) (eqb (get_or by e 0) (get_or by v 0)));
    }

module _ (by : List ℕ) (ws left : ℕ) (eq : List ℕ) (g : Gained by ws left eq) (v : ℕ) (has : Has left v) where
  abbrev test : ℕ → Bool
  test e = eqb (get_or by e 0) (get_or by v 0)

  pub gained_next : Gained by ws (remove left v) (placing (match test v eq) slots eq)
  gained_next =
      record {
        size = placing_length (match test v eq) eq slots ∙ g.size;
        width = let z = remove_lt left v has in let y = g.width in omega arith;
        of = λ d p. g.of d (remove_old left v d p);
        each = λ e d h. let z = g.size in ap (λ (m : ℕ). mem m d) (placing_at (match test v eq) eq slots e h (omega arith)) ∙ gains_mem (test e) (get_or eq e 0) v d
            ∙ ap (λ (b : Bool). b or (test e and eqb d v)) (g.each e d h) ∙ done_next ws left v has (g.of v has) (λ (i : ℕ). eqb (get_or by e 0) (get_or by i 0)) d;
      }

-- ---- the masks of crate alike

module _ {t by : List ℕ} {n far scs writers seconds : ℕ} (few : n ≤ slots) (noted : NotedIn t n (replicate slots 0) by far scs writers seconds) where
  abbrev one : ℕ → Shape
  one e = shape_in t (2 * e)

  key_at : (e : ℕ) → e < n → get_or by e 0 ≡ first_key t e
  key_at e h =
      let long = length-replicate {A = ℕ} slots 0 in
      ap (λ (l : List ℕ). get_or l e 0) noted.keys ∙ placing_at (first_key t) (replicate slots 0) n e h (omega arith)

  key_beyond : (e : ℕ) → n ≤ e → e < slots → get_or by e 0 ≡ 0
  key_beyond e h l = ap (λ (l : List ℕ). get_or l e 0) noted.keys ∙ placing_beyond (first_key t) (replicate slots 0) n e h ∙ get_or-replicate slots e 0 0 l

  same_key : (e v : ℕ) → e < slots → v < n → sc (one v) ≡ true → eqb (get_or by e 0) (get_or by v 0) ≡ (ltb e n and sc (one e) and equal (one v) (one e))
  same_key e v he hv s =
      by_bool (ltb e n)
      (λ y.
      let h = ltb-true e n y in
      ap₂ eqb (key_at e h) (key_at v hv) ∙ key_equal (one v) (one e) (noted.narrow v hv) (noted.narrow e h) s ∙ sym (and_holds (ltb e n) _ y))
      (λ y.
      let z = key_beyond e (ltb-false e n y) he in
      let m = key_at v hv in
      let o = key_sc (one v) s in
      ne_eqb (get_or by e 0) (get_or by v 0) (λ q. omega arith) ∙ sym (and_fails (ltb e n) _ y))

  -- e and v are below n, e's first access is sc, and v's writes sc with its range
  abbrev firsts : ℕ → ℕ → Bool
  firsts e v = ltb v n and ltb e n and sc (one e) and hits (one v) (one e)

  by_firsts : {eq : List ℕ} → Gained by scs 0 eq → (e v : ℕ) → e < slots → mem (get_or eq e 0) v ≡ firsts e v
  unfolding hits sc_writes
  by_firsts {eq} g e v h =
      g.each e v h ∙ done_all scs v (eqb (get_or by e 0) (get_or by v 0))
      ∙ ap (λ (b : Bool). b and eqb (get_or by e 0) (get_or by v 0)) (ap (λ (m : ℕ). mem m v) noted.scs ∙ mem_picked n (λ (d : ℕ). sc_writes t (2 * d)) v)
      ∙ bool_ext _ _
      (λ y.
      let a = and_both (ltb v n and sc_writes t (2 * v)) _ y in
      let b = and_both (ltb v n) _ a.0 in
      let w = and_both (sc (one v)) (writes (one v)) b.1 in
      let k = and_both (ltb e n) _ (sym (same_key e v h (ltb-true v n b.0) w.0) ∙ a.1) in
      let q = and_both (sc (one e)) _ k.1 in
      both_hold (ltb v n) _ b.0 (both_hold (ltb e n) _ k.0 (both_hold (sc (one e)) _ q.0 (both_hold (sc (one v)) _ w.0 (both_hold (writes (one v)) _ w.1 q.1)))))
      (λ y.
      let a = and_both (ltb v n) _ y in
      let b = and_both (ltb e n) _ a.1 in
      let c = and_both (sc (one e)) _ b.1 in
      let d = and_both (sc (one v)) _ c.1 in
      let f = and_both (writes (one v)) _ d.1 in
      both_hold (ltb v n and sc_writes t (2 * v)) _ (both_hold (ltb v n) _ a.0 (both_hold (sc (one v)) _ d.0 f.0))
      (same_key e v h (ltb-true v n a.0) d.0 ∙ both_hold (ltb e n) _ b.0 (both_hold (sc (one e)) _ c.0 f.1)))

  module _ (alone : Lone t n) where
    second : (v : ℕ) → v < n → (shape_in t (2 * v + 1)).width ≡ 0
    unfolding Lone
    second v h = alone v h

    -- a second access has no range that an access which covers a byte has
    no_second : (e a v : ℕ) → covers (one e) a ≡ true → v < n → hits (shape_in t (2 * v + 1)) (one e) ≡ false
    unfolding hits equal covers
    no_second e a v cov h =
        false_of _
        (λ y.
        let p = and_both (writes (shape_in t (2 * v + 1))) _ (and_both (sc (shape_in t (2 * v + 1))) _ y).1 in
        let q = and_both (eqb (shape_in t (2 * v + 1)).start (one e).start) _ p.1 in
        let same = eqb-true (shape_in t (2 * v + 1)).width (one e).width q.1 in
        let none = second v h in
        let r = and_both (leb (one e).start a) _ cov in
        let low = leb-true (one e).start a r.0 in
        let high = ltb-true a ((one e).start + (one e).width) r.1 in
        omega arith)

    below : (e : ℕ) → ltb e n ≡ ltb (2 * e) (2 * n)
    below e = bool_ext _ _ (λ y. let h = ltb-true e n y in lt-ltb (2 * e) (2 * n) (omega arith)) (λ y. let h = ltb-true (2 * e) (2 * n) y in lt-ltb e n (omega arith))

    pub alikes_agree : (eq : List ℕ) → Gained by scs 0 eq → Agrees t eq (equals_in t n)
    unfolding matches sharing
    alikes_agree eq g = record { same = same; bare = bare }
      where
        same : (e a : ℕ) → e < slots → covers (one e) a ≡ true → get_or eq e 0 ≡ get_or (equals_in t n) (2 * e) 0
        same e a he cov =
            ext_all (get_or eq e 0) (get_or (equals_in t n) (2 * e) 0)
            (λ v. by_firsts g e v he
            ∙ by_bool (ltb v n)
            (λ y.
            let w = no_second e a v cov (ltb-true v n y) in
            ap (λ (c : Bool). ltb v n and c and sc (one e) and hits (one v) (one e)) (below e)
            ∙ ap (λ (c : Bool). ltb v n and ltb (2 * e) (2 * n) and sc (one e) and c) (sym (ap (λ (c : Bool). hits (one v) (one e) or c) w ∙ or_none (hits (one v) (one e)))))
            (λ y. and_fails (ltb v n) _ y ∙ sym (and_fails (ltb v n) _ y))
            ∙ sym (equals_mem t n few (2 * e) v (omega arith)))

        bare : (e : ℕ) → e < slots → sc (one e) ≡ false → get_or (equals_in t n) (2 * e) 0 ≡ 0
        bare e he f =
            ext_all (get_or (equals_in t n) (2 * e) 0) 0
            (λ v. equals_mem t n few (2 * e) v (omega arith)
            ∙ false_of _ (λ y. not_both_ways (and_both (sc (one e)) _ (and_both (ltb (2 * e) (2 * n)) _ (and_both (ltb v n) _ y).1).1).0 f) ∙ sym (mem_empty v))

-- ---- a row

module _ {t eq eqs : List ℕ} (agree : Agrees t eq eqs) (r : Row) (cov : covered_in t r ≡ true) where
  pub agree_reader : get_or eq (r.reader % slots) 0 ≡ get_or eqs (2 * (r.reader % slots)) 0
  unfolding covered_in
  agree_reader = agree.same (r.reader % slots) r.address (omega arith) (and_both (covers (shape_in t (2 * (r.reader % slots))) r.address) _ cov).0

  pub agree_writer : get_or eq (r.writer % slots) 0 ≡ get_or eqs (2 * (r.writer % slots)) 0
  unfolding covered_in
  agree_writer = agree.same (r.writer % slots) r.address (omega arith) (and_both (covers (shape_in t (2 * (r.reader % slots))) r.address) _ cov).1

both_same : (b : Bool) → ◌≡◌ {A = ℕ} (cond b 0 0) 0
both_same true = refl
both_same false = refl

module _ (a b : Shape) (asA asB : ℕ) (wr : Bool) (before after : ℕ) (bare-a : Bare a asA) (bare-b : Bare b asB) where
  by_range : cond (sc b && equal b a) asA 0 ≡ cond (both_sc b a) asA 0
  unfolding both_sc
  by_range =
      by_bool (sc a)
      (λ y. ap (λ (c : Bool). cond c asA 0) (amp_and (sc b) (equal b a) ∙ ap (λ (c : Bool). sc b and c) (sym (and_holds (sc a) (equal b a) y))))
      (λ y. let z = bare-a y in ap (λ (m : ℕ). cond (sc b && equal b a) m 0) z ∙ both_same (sc b && equal b a) ∙ sym (ap (λ (m : ℕ). cond (sc b and sc a and equal b a) m 0) z ∙ both_same (sc b and sc a and equal b a)))

  spread : (c : Bool) (x y : ℕ) → cond c (bit_or x y) 0 ≡ bit_or (cond c x 0) (cond c y 0)
  spread true x y = refl
  spread false x y = sym (or_zero_l 0)

  only_sc : (s : Shape) (m z : ℕ) → Bare s m → cond wr (bit_and m z) 0 ≡ cond (wr and sc s) (bit_and m z) 0
  only_sc s m z bare =
      by_bool (sc s)
      (λ y. sym (ap (λ (c : Bool). cond (wr and c) (bit_and m z) 0) y ∙ ap (λ (c : Bool). cond c (bit_and m z) 0) (and_true wr)))
      (λ y. let e : bit_and m z ≡ 0 = ap (λ (x : ℕ). bit_and x z) (bare y) ∙ and_zero_l z in ap (λ (x : ℕ). cond wr x 0) e ∙ both_same wr ∙ sym (ap (λ (x : ℕ). cond (wr and sc s) x 0) e ∙ both_same (wr and sc s)))

  pub reasons_bare : bit_or (cond (sc b && equal b a) asA 0) (cond wr (bit_or (bit_and asB before) (bit_and asA after)) 0) ≡ reasons_in a b asA asB wr before after
  unfolding reasons_in
  reasons_bare = ap₂ bit_or by_range (spread wr (bit_and asB before) (bit_and asA after) ∙ ap₂ bit_or (only_sc b asB before bare-b) (only_sc a asA after bare-a))
