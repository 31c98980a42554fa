-- The laws of specs/Clean.antt, and what follows for the rules 22 to 25. Assumes nothing.
--     marks_or, marks_number, marks_bare, marks_below, marks_cyclic     what is noticed, joined; each part of it
--     last_more, run_more, amiss_at     row by row
--     never_more                   none among the first numbers, one by one
--     row_covered                  a row that is not amiss
--     Unmixed, unmixed             the sources that 25 asks for, where no row is amiss
--     clean_tells                  the flag of the whole
--     clean_kept                   clean tables break no rule of 22 to 25
use mathlib.Core.Path.{◌≡◌, refl, sym, ap, ap₂, ◌∙◌, subst}
use mathlib.Core.Bool.{Bool, true, false, cond, not, ◌&&◌}
use mathlib.Core.Logic.{◌⊎◌, inl, inr}
use mathlib.Core.List.{List}
use Prim.Native.Nat.{ℕ, zero, suc, ◌+◌, ◌*◌, ◌%◌, ◌≤◌, ◌<◌, min}
use native.Mathlib.Numerals.{add-one}
use native.Mathlib.Nat.{mod-eq_of_lt}
use native.Mathlib.Omega.{arith}
use native.Mathlib.Decide.{ℕ_discrete, dec_lt}
use borrow.Author.Tests.{eq-eqb, ne_eqb, eqb-true, eqb-false, ltb-true, ltb-false, lt-ltb, le-ltb, le-leb}
use lib.Bits.{bit_and, bit_or, or_zero_l}
use lib.Dec.{eqb, ltb, leb}
use lib.ListN.{length, get_or, replicate, length-replicate, get_or-replicate}
use lib.Seq.{get_or-set_same, get_or-set_other}
use Rattle.basis.specs.Test.{◌and◌, ◌or◌}
use Rattle.basis.proofs.BoolLaws.{by_bool, not_both_ways, false_of, amp_and, bar_or, and_both, and_parts, both_hold, or_holds, or_second}
use Rattle.format.specs.declared.Row.{Row}
use Rattle.format.specs.Shape.{writes, tear_free, equal}
use Rattle.answer.specs.Rules.{unbreached}
use Rattle.answer.proofs.RulesLaws.{also_later}
use Rattle.sets.specs.Mask.{slots, mem, Has, insert}
use Rattle.sets.specs.Tells.{Tells}
use Rattle.sets.proofs.MaskLaws.{mem_and, mem_or, mem_empty, insert_new, insert_cases, ext_all}
use Rattle.cells.specs.Cells.{gaining}
use Rattle.cells.specs.First.{first_of}
use Rattle.std.specs.Prelude.{None}
use Rattle.cells.proofs.FirstLaws.{first_past, some_none}
use Rattle.tables.specs.Tables.{accesses, row_room, shape_in, slot_in, writes_in, row_in}
use Rattle.tables.proofs.TablesLaws.{reader_slot}
use Rattle.own.specs.Lone.{Lone}
use Rattle.torn.specs.Torn.{untorn_in, source_gains, sources_in, rule25_in}
use Rattle.torn.specs.steps.Noticed.{Marks, Among}
use Rattle.torn.specs.steps.Doubled.{Twice}
use Rattle.torn.proofs.NoticedLaws.{or_nothing}
use Rattle.torn.proofs.TornLaws.{row_gains, row_keeps, sources_none, sources_length, sources_more}
use Rattle.torn.proofs.DoubledLaws.{not_doubled}
use Rattle.rules.specs.Rules.{cyclic_in, turned_in, between_in, over_in, rest_in}
use Rattle.sift.specs.Cover.{near_room}
use Rattle.rules.proofs.RulesLaws.{turned_is, rule22_no, rule23_no, rule24_no}
use Rattle.sift.proofs.CoverLaws.{covers_parts, by_first}
use Rattle.bars.specs.steps.Covered.{covered_in}
use Rattle.bars.proofs.CoveredLaws.{covered_reader, covered_writer}
use Rattle.sift.specs.Clean.{wide_of, near_to, Telling, stirs_in, whole_in, run_of, last_in, run_in, RowAmiss, AmissAt, Clean}

-- ---- what is noticed

pub marks_or : {A B : Type 0} (a b : ℕ) → Marks a A → Marks b B → Marks (bit_or a b) (A ⊎ B)
marks_or {A} {B} a b m n = record { none = λ e. none (or_nothing a b e); some = λ f. some f (ℕ_discrete a 0) }
  where
    none : (a ≡ 0) × (b ≡ 0) → A ⊎ B → ⊥
    none z (inl x) = m.none z.0 x
    none z (inr y) = n.none z.1 y

    some : (bit_or a b ≡ 0 → ⊥) → Dec (a ≡ 0) → A ⊎ B
    some f (yes e) = inr (n.some (λ q. f (ap₂ bit_or e q ∙ or_zero_l 0)))
    some f (no e) = inl (m.some e)

pub marks_number : (x y : ℕ) → x ≡ y → Marks x (y ≡ 0 → ⊥)
marks_number x y e = record { none = λ z f. f (sym e ∙ z); some = λ f z. f (e ∙ z) }

-- a test as a number
one_test : (b : Bool) → ◌≡◌ {A = ℕ} (cond b 1 0) 0 → b ≡ false
one_test b e = false_of b (λ y. let z : ◌≡◌ {A = ℕ} 1 0 = sym (ap (λ (c : Bool). cond c 1 0) y) ∙ e in omega arith)

marks_test : (x : ℕ) (b : Bool) → x ≡ cond b 1 0 → Marks x (b ≡ true)
marks_test x b e =
    record {
      none = λ z y. not_both_ways y (one_test b (sym e ∙ z));
      some = λ f. by_bool b (λ y. y) (λ y. absurd (f (e ∙ ap (λ (c : Bool). cond c 1 0) y)));
    }

pub marks_bare : (x : ℕ) (b c : Bool) → x ≡ cond (not b) 1 0 → b ≡ c → Marks x (c ≡ false)
marks_bare x b c e same =
    let m = marks_test x (not b) e in
    record {
      none = λ z y. m.none z (ap not (same ∙ y));
      some = λ f. by_bool c (λ y. absurd (f (e ∙ ap (λ (d : Bool). cond (not d) 1 0) (same ∙ y)))) (λ y. y);
    }

pub marks_below : (x a b : ℕ) → x ≡ cond (ltb a b) 1 0 → Marks x (a < b)
marks_below x a b e = let m = marks_test x (ltb a b) e in record { none = λ z h. m.none z (lt-ltb a b h); some = λ f. ltb-true a b (m.some f) }

pub marks_cyclic : (succ : List ℕ) (e x y : ℕ) → x ≡ get_or succ e 0 → y ≡ insert 0 e → Marks (bit_and x y) (cyclic_in succ e ≡ true)
unfolding cyclic_in ◌and◌
marks_cyclic succ e x y p q =
    record {
      none = λ z h. not_both_ways (mem_and x y e ∙ amp_and (mem x e) (mem y e) ∙ both_hold _ _ (ap (λ (m : ℕ). mem m e) p ∙ h) (ap (λ (m : ℕ). mem m e) q ∙ insert_new 0 e)) (ap (λ (m : ℕ). mem m e) z ∙ mem_empty e);
      some = λ f. by_bool (mem (get_or succ e 0) e) (λ h. h) (λ h. absurd (f (ext_all (bit_and x y) 0 (λ d. empty h d ∙ sym (mem_empty d)))));
    }
  where
    empty : mem (get_or succ e 0) e ≡ false → (d : ℕ) → mem (bit_and x y) d ≡ false
    empty h d = mem_and x y d ∙ amp_and (mem x d) (mem y d) ∙ go (ℕ_discrete d e)
      where
        go : Dec (d ≡ e) → (mem x d and mem y d) ≡ false
        go (yes z) = ap (λ (b : Bool). b and mem y d) (ap₂ mem p z ∙ h)
        go (no z) = false_of _ (λ w. absurd (by_no (mem x d) w))
          where
            by_no : (b : Bool) → (b and mem y d) ≡ true → ⊥
            by_no true w = out (insert_cases 0 e d (sym (ap (λ (m : ℕ). mem m d) q) ∙ w))
              where
                out : (d ≡ e) ⊎ Has 0 d → ⊥
                out (inl c) = z c
                out (inr c) = not_both_ways c (mem_empty d)
            by_no false w = not_both_ways w refl

-- ---- row by row

module _ (t q : List ℕ) (j : ℕ) (r : Row) (is : r ≡ row_in q j) where
  pub last_more : r.reader ≡ last_in q (j + 1)
  unfolding last_in
  last_more = ap (λ (x : Row). x.reader) is ∙ ap (last_in q) (sym (add-one j))

  pub run_more : (last m x : ℕ) → last ≡ last_in q j → m ≡ run_in t q j → x ≡ run_of t r last m → x ≡ run_in t q (suc j)
  unfolding run_in
  run_more last m x a b e = e ∙ ap (λ (y : Row). run_of t y last m) is ∙ ap₂ (run_of t (row_in q j)) a b

module _ (t succ pred : List ℕ) (far : ℕ) (l q : List ℕ) (j : ℕ) (r : Row) (is : r ≡ row_in q j) where
  pub amiss_at : (y last m : ℕ) → last ≡ last_in q j → m ≡ run_in t q (suc j) → Marks y (RowAmiss t succ pred far l r last m) → Marks y (AmissAt t succ pred far l q j)
  amiss_at y last m a b g =
      subst (λ (x : Row). Marks y (RowAmiss t succ pred far l x (last_in q j) (run_in t q (suc j)))) is
      (subst (λ (x : ℕ). Marks y (RowAmiss t succ pred far l r x (run_in t q (suc j)))) a (subst (λ (x : ℕ). Marks y (RowAmiss t succ pred far l r last x)) b g))

-- none among the first numbers, and not the next one
pub never_more : (P : ℕ → Type 0) (k : ℕ) → (Among k P → ⊥) → (P k → ⊥) → Among (k + 1) P → ⊥
never_more P k old new a = go (ℕ_discrete a.at k)
  where
    go : Dec (a.at ≡ k) → ⊥
    go (yes e) = new (subst P e a.holds)
    go (no e) = old (record { at = a.at; inside = let z = a.inside in omega (arith, e); holds = a.holds })

-- a row that is not amiss
pub row_covered : (t succ pred : List ℕ) (far : ℕ) (l : List ℕ) (r : Row) (last m : ℕ) → (RowAmiss t succ pred far l r last m → ⊥) → covered_in t r ≡ true
row_covered t succ pred far l r last m h = by_bool (covered_in t r) (λ y. y) (λ y. absurd (h (inr (inr (inl y)))))

-- ---- 25

-- by first accesses, where they cover the row's byte
whole_is : (t : List ℕ) (r : Row) → covered_in t r ≡ true → untorn_in t r ≡ whole_in t r
unfolding untorn_in whole_in
whole_is t r h =
    ap₂ (λ (x y : ℕ). tear_free (shape_in t x) and tear_free (shape_in t y) and equal (shape_in t x) (shape_in t y)) (covered_reader t r h) (covered_writer t r h)

-- the sources so far: those of the last reader are m, those of later ones none, and no access has two
pub record Unmixed (s : List ℕ) (last m : ℕ) : Type 0 where
  pub size : length s ≡ accesses
  pub at : get_or s (2 * last) 0 ≡ m
  pub beyond : (k : ℕ) → 2 * last < k → k < accesses → get_or s k 0 ≡ 0
  pub single : (k : ℕ) → k < accesses → Twice (get_or s k 0) → ⊥

module _ (t s : List ℕ) (last m : ℕ) (u : Unmixed s last m) (r : Row) (slot : r.reader < slots) (cov : covered_in t r ≡ true) (up : r.reader < last → ⊥) (one : Twice (run_of t r last m) → ⊥) where
  abbrev place : ℕ
  place = 2 * r.reader

  abbrev had : ℕ
  had = cond (eqb r.reader last) m 0

  was : get_or s place 0 ≡ had
  was = go (ℕ_discrete r.reader last)
    where
      go : Dec (r.reader ≡ last) → get_or s place 0 ≡ had
      go (yes z) = ap (λ (x : ℕ). get_or s (2 * x) 0) z ∙ u.at ∙ sym (ap (λ (b : Bool). cond b m 0) (eq-eqb r.reader last z))
      go (no z) = u.beyond place (omega (arith, z, up)) (omega arith) ∙ sym (ap (λ (b : Bool). cond b m 0) (ne_eqb r.reader last z))

  slot_is : slot_in t (r.reader % slots) r.address ≡ place
  slot_is = covered_reader t r cov ∙ ap (λ (x : ℕ). 2 * x) (mod-eq_of_lt slot)

  now_at : get_or (source_gains t r s) place 0 ≡ run_of t r last m
  unfolding run_of gaining
  now_at =
      by_bool (whole_in t r)
      (λ h. ap (λ (l : List ℕ). get_or l place 0) (row_gains t r s (whole_is t r cov ∙ h) ∙ ap (λ (i : ℕ). gaining s i (r.writer % slots)) slot_is)
      ∙ get_or-set_same s place (insert (get_or s place 0) (r.writer % slots)) 0 (let z = u.size in omega arith) ∙ ap (λ (x : ℕ). insert x (r.writer % slots)) was
      ∙ sym (ap (λ (b : Bool). cond b (insert had (r.writer % slots)) had) h))
      (λ h. ap (λ (l : List ℕ). get_or l place 0) (row_keeps t r s (whole_is t r cov ∙ h)) ∙ was ∙ sym (ap (λ (b : Bool). cond b (insert had (r.writer % slots)) had) h))

  else_same : (k : ℕ) → (k ≡ place → ⊥) → get_or (source_gains t r s) k 0 ≡ get_or s k 0
  unfolding gaining
  else_same k f =
      by_bool (whole_in t r)
      (λ h. ap (λ (l : List ℕ). get_or l k 0) (row_gains t r s (whole_is t r cov ∙ h) ∙ ap (λ (i : ℕ). gaining s i (r.writer % slots)) slot_is)
      ∙ get_or-set_other s place k (insert (get_or s place 0) (r.writer % slots)) 0 f)
      (λ h. ap (λ (l : List ℕ). get_or l k 0) (row_keeps t r s (whole_is t r cov ∙ h)))

  unmixed_next : length (source_gains t r s) ≡ length s → Unmixed (source_gains t r s) r.reader (run_of t r last m)
  unmixed_next long =
      record {
        size = long ∙ u.size;
        at = now_at;
        beyond = λ k h l. else_same k (λ z. omega arith) ∙ u.beyond k (omega (arith, up)) l;
        single = λ k h. go k h (ℕ_discrete k place);
      }
    where
      go : (k : ℕ) → k < accesses → Dec (k ≡ place) → Twice (get_or (source_gains t r s) k 0) → ⊥
      go k h (yes z) w = one (subst Twice (ap (λ (x : ℕ). get_or (source_gains t r s) x 0) z ∙ now_at) w)
      go k h (no z) w = u.single k h (subst Twice (else_same k z) w)

abbrev nothing : List ℕ
nothing = replicate accesses 0

module _ (t succ pred : List ℕ) (far : ℕ) (l q : List ℕ) where
  pub unmixed : (m : ℕ) → (Among m (AmissAt t succ pred far l q) → ⊥) → Unmixed (sources_in t q m nothing) (last_in q m) (run_in t q m)
  unfolding last_in run_in
  unmixed zero h = first
    where
      empty : (k : ℕ) → k < accesses → get_or (sources_in t q 0 nothing) k 0 ≡ 0
      empty k g = ap (λ (s : List ℕ). get_or s k 0) (sym (sources_none t q nothing)) ∙ get_or-replicate accesses k 0 0 g

      first : Unmixed (sources_in t q 0 nothing) 0 0
      first =
          record {
            size = sources_length t q nothing 0 ∙ length-replicate {A = ℕ} accesses 0;
            at = empty 0 (omega arith);
            beyond = λ k a b. empty k b;
            single = λ k g w. not_both_ways w.has_first (ap (λ (x : ℕ). mem x w.first) (empty k g) ∙ mem_empty w.first);
          }
  unmixed (suc j) h = step (unmixed j (λ a. h (record { at = a.at; inside = let z = a.inside in omega arith; holds = a.holds })))
    where
      fine : AmissAt t succ pred far l q j → ⊥
      fine a = h (record { at = j; inside = omega arith; holds = a })

      more : source_gains t (row_in q j) (sources_in t q j nothing) ≡ sources_in t q (suc j) nothing
      more = sources_more t q nothing j ∙ ap (λ (i : ℕ). sources_in t q i nothing) (add-one j)

      step : Unmixed (sources_in t q j nothing) (last_in q j) (run_in t q j) → Unmixed (sources_in t q (suc j) nothing) (row_in q j).reader (run_of t (row_in q j) (last_in q j) (run_in t q j))
      step u =
          subst (λ (s : List ℕ). Unmixed s (row_in q j).reader (run_of t (row_in q j) (last_in q j) (run_in t q j))) more
          (unmixed_next t (sources_in t q j nothing) (last_in q j) (run_in t q j) u (row_in q j) (reader_slot q j) (row_covered t succ pred far l (row_in q j) (last_in q j) (run_in t q (suc j)) fine) (λ g. fine (inr (inr (inr (inl g))))) (λ w. fine (inr (inr (inr (inr w)))))
          (ap length more ∙ sources_length t q nothing (suc j) ∙ sym (sources_length t q nothing j)))

  -- ---- clean tables

  pub clean_tells : (n m : ℕ) (a b : Bool) (x : ℕ) → Tells a (Among m (AmissAt t succ pred far l q) → ⊥) → Tells b (Lone t n) → Marks x (Among slots (λ (e : ℕ). cyclic_in succ e ≡ true))
      → Tells (a && (b && eqb x 0)) (Clean t n succ pred far l q m)
  clean_tells n m a b x rows alone own =
      record {
        holds = λ h. let p = and_parts a _ h in let s = and_parts b _ p.1 in record { uncyclic = own.none (eqb-true x 0 s.1); lone = alone.holds s.0; still = rows.holds p.0 };
        fails = λ h c. by_bool a (λ y. by_bool b (λ w. by_bool (eqb x 0) (λ z. not_both_ways ((λ i. y i && (w i && z i))) h) (λ z. c.uncyclic (own.some (eqb-false x 0 z)))) (λ w. alone.fails w c.lone)) (λ y. rows.fails y c.still);
      }

  -- what is known of a row that is not amiss
  module _ (j : ℕ) (fine : AmissAt t succ pred far l q j → ⊥) where
    still : stirs_in succ pred far l (row_in q j) ≡ 0
    still = go (ℕ_discrete (stirs_in succ pred far l (row_in q j)) 0)
      where
        go : Dec (stirs_in succ pred far l (row_in q j) ≡ 0) → stirs_in succ pred far l (row_in q j) ≡ 0
        go (yes e) = e
        go (no f) = absurd (fine (inl f))

    first : (row_in q j).address < near_room
    first = go (dec_lt 63 (row_in q j).address)
      where
        go : Dec (63 < (row_in q j).address) → (row_in q j).address < near_room
        go (yes h) = absurd (fine (inr (inl h)))
        go (no h) = omega (arith, h)

    not_turned : j < row_room → turned_in q succ j ≡ false
    unfolding stirs_in
    not_turned h =
        sym (turned_is q j h (row_in q j) (ap (row_in q) (sym (mod-eq_of_lt h))) succ) ∙ one_test (mem (get_or succ ((row_in q j).reader % slots) 0) ((row_in q j).writer % slots)) (or_nothing _ _ still).0

    module _ (n : ℕ) (have : Telling t n far l) (alone : Lone t n) where
      may : (v : ℕ) → v < slots → writes_in t v (row_in q j).address ≡ true → Has (bit_or far (get_or l ((row_in q j).address % near_room) 0)) v
      unfolding wide_of near_to Lone
      may v h y =
          let a = (row_in q j).address in
          let at : a % near_room ≡ a = mod-eq_of_lt first in
          mem_or far _ v ∙ bar_or (mem far v) _ ∙ go (dec_lt v n) at
        where
          go : Dec (v < n) → (row_in q j).address % near_room ≡ (row_in q j).address → (mem far v or mem (get_or l ((row_in q j).address % near_room) 0) v) ≡ true
          go (no k) at = or_holds (mem far v) _ (have.others v h ∙ or_second _ (leb n v) (le-leb n v (omega (arith, k))))
          go (yes k) at =
              by_bool (wide_of (shape_in t (2 * v)))
              (λ w. or_holds (mem far v) _ (have.others v h ∙ or_holds _ (leb n v) (both_hold (ltb v n) _ (lt-ltb v n k) w)))
              (λ w. or_second (mem far v) _ (ap (λ (i : ℕ). mem (get_or l i 0) v) at ∙ have.near v (row_in q j).address first ∙ close w))
            where
              close : wide_of (shape_in t (2 * v)) ≡ false → ((ltb v n and writes (shape_in t (2 * v))) and near_to (shape_in t (2 * v)) (row_in q j).address) ≡ true
              close w =
                  let a = (row_in q j).address in
                  let s = shape_in t (2 * v) in
                  let p : ltb 8 s.width ≡ false = false_of _ (λ z. not_both_ways (or_holds (ltb 8 s.width) _ z) w) in
                  let g : ltb 63 s.start ≡ false = false_of _ (λ z. not_both_ways (or_second (ltb 8 s.width) _ z) w) in
                  let by = by_first t v a (alone v k) y in
                  let c = covers_parts s a by.0 in
                  let low = c.0 in
                  let high = c.1 in
                  let u = ltb-false 8 s.width p in
                  let i = ltb-false 63 s.start g in
                  both_hold _ _ (both_hold (ltb v n) _ (lt-ltb v n k) by.1) (both_hold _ _ (le-leb (s.start % near_room) a (omega arith)) (lt-ltb a (s.start % near_room + min s.width 8) (omega arith)))

      none_between : (v : ℕ) → v < slots → between_in t succ pred (row_in q j) v ≡ false
      unfolding stirs_in between_in
      none_between v h =
          false_of _
          (λ y. let w = and_both (mem (bit_and (get_or succ ((row_in q j).writer % slots) 0) (get_or pred ((row_in q j).reader % slots) 0)) v) (writes_in t v (row_in q j).address) y in
          not_both_ways (both _ _ w.0 (may v h w.1))
          (ap (λ (x : ℕ). mem x v) (or_nothing (cond (mem (get_or succ ((row_in q j).reader % slots) 0) ((row_in q j).writer % slots)) 1 0) _ still).1 ∙ mem_empty v))
        where
          both : (a b : ℕ) → Has a v → Has b v → Has (bit_and a b) v
          both a b p r = mem_and a b v ∙ amp_and (mem a v) (mem b v) ∙ both_hold (mem a v) (mem b v) p r

      not_over : over_in t q succ pred j ≡ false
      unfolding over_in
      not_over =
          let e = first_past (between_in t succ pred (row_in q j)) slots slots (omega arith) none_between in
          le-ltb (first_of (between_in t succ pred (row_in q j)) slots) slots (omega arith)

  pub clean_kept : (n m : ℕ) → n ≤ slots → m ≤ row_room → Telling t n far l → Clean t n succ pred far l q m → rest_in t n succ pred q m ≡ unbreached
  unfolding rest_in rule25_in
  clean_kept n m few room have c =
      let kept22 = rule22_no n None refl succ (some_none (cyclic_in succ) n (λ e h. false_of _ (λ y. c.uncyclic (record { at = e; inside = omega arith; holds = y })))) in
      let kept23 = rule23_no m None refl q succ (some_none (turned_in q succ) m (λ j h. not_turned j (fine j h) (omega arith))) in
      let kept24 = rule24_no t q succ pred m (λ j h. not_over j (fine j h) n have c.lone) in
      let kept25 = not_doubled (sources_in t q m nothing) n few (λ d. (unmixed m c.still).single d.at d.inside d.holds) in
      sym (also_later kept22 (also_later kept23 (also_later kept24 kept25)))
    where
      fine : (j : ℕ) → j < m → AmissAt t succ pred far l q j → ⊥
      fine j h a = c.still (record { at = j; inside = h; holds = a })
