-- 25 over the tables is the model's 25. Assumes nothing.
--     slot_one        two bytes of an event at which it has accesses with equal ranges are bytes of one access
--     torn_forth, torn_back     a torn read by the model is two sources of one access, and the other way round
--     ruled25         25 finds what the model finds
use mathlib.Core.Path.{◌≡◌, refl, sym, ap, ◌∙◌, subst}
use mathlib.Core.Bool.{true, false}
use mathlib.Core.Logic.{◌⊎◌, inl, inr, ⊎_elim}
use mathlib.Core.List.{List, Memᴰ}
use mathlib.Core.Option.{none, some}
use Prim.Native.Nat.{ℕ, ◌+◌, ◌*◌, ◌/◌, ◌%◌, ◌<◌}
use native.Mathlib.Nat.{mod-eq_of_lt}
use native.Mathlib.Omega.{arith}
use borrow.Author.Tests.{eq-eqb, eqb-true, lt-ltb, ltb-true, ltb-false}
use lib.Dec.{T, eqb, ltb}
use lib.ListN.{get_or, replicate}
use Rattle.basis.specs.Test.{◌and◌, find, mapped, across, from}
use Rattle.basis.proofs.BoolLaws.{and_elim, and_intro, true_T, T_true, T_false, and_holds, and_both, or_holds, or_either, or_second, by_bool, not_both_ways}
use Rattle.basis.proofs.ListLaws.{from_mem, from_elim, each_elim, each_mem, each_id}
use Rattle.basis.proofs.LoopLaws.{any_elim, any_intro}
use Rattle.basis.proofs.FindLaws.{least_pair, no_pair_lem, find_firsts}
use Rattle.format.specs.declared.Shape.{Shape}
use Rattle.format.specs.declared.Row.{Row}
use Rattle.format.specs.Shape.{covers, equal, tear_free}
use Rattle.format.specs.Execution.{Execution}
use Rattle.format.proofs.ShapeLaws.{equal_sym, equal_self, covers_equal}
use Rattle.format.proofs.ExecutionLaws.{reads_covers, writes_covers}
use Rattle.answer.specs.declared.Names.TheVariants.{Torn}
use Rattle.sets.specs.Mask.{slots, mem, Has}
use Rattle.cells.specs.First.{first_of}
use Rattle.cells.proofs.FirstLaws.{first_of_lem}
use Rattle.model.specs.Events.{numbers, at_row, of_reader}
use Rattle.model.specs.Rules.{faulty, untorn, untorn_from, breaks25, fault25}
use Rattle.model.proofs.Sound.{Sound}
use Rattle.model.proofs.HappensLaws.{reader_inside, writer_inside}
use Rattle.tables.specs.Tables.{accesses, shape_in, slot_in, row_in}
use Rattle.tables.proofs.TablesLaws.{slot_first, slot_second, slot_lt}
use Rattle.torn.specs.Torn.{untorn_in, sources_in, two_in, two_sources_in, pairs, torn_in, named_in, rule25_in}
use Rattle.front.specs.Tabled.{Tabled, Rowed, found_of}
use Rattle.front.proofs.TabledLaws.{at_slot_of}
use Rattle.front.proofs.RuledLaws.{found_named}
use Rattle.front.proofs.SourcesLaws.{sources_iff}

pub slot_one : (t : List ℕ) (e a b : ℕ) → T (covers (shape_in t (slot_in t e a)) a) → T (covers (shape_in t (slot_in t e b)) b)
    → T (equal (shape_in t (slot_in t e a)) (shape_in t (slot_in t e b))) → slot_in t e a ≡ slot_in t e b
slot_one t e a b ca cb q =
    by_bool (covers (shape_in t (2 * e)) a)
    (λ x. by_bool (covers (shape_in t (2 * e)) b) (λ y. slot_first t e a x ∙ sym (slot_first t e b y))
    (λ y. absurd (not_both_ways (T_true _ (covers_equal (shape_in t (slot_in t e b)) (shape_in t (2 * e)) b
    (subst (λ (k : ℕ). T (equal (shape_in t (slot_in t e b)) (shape_in t k))) (slot_first t e a x) (equal_sym _ _ q)) cb)) y)))
    (λ x. by_bool (covers (shape_in t (2 * e)) b)
    (λ y. absurd (not_both_ways (T_true _ (covers_equal (shape_in t (slot_in t e a)) (shape_in t (2 * e)) a
    (subst (λ (k : ℕ). T (equal (shape_in t (slot_in t e a)) (shape_in t k))) (slot_first t e b y) q) ca)) x))
    (λ y. slot_second t e a x ∙ sym (slot_second t e b y)))

module _ (x : Execution) (t : List ℕ) (n : ℕ) (tb : Tabled x t n) (q : List ℕ) (m : ℕ) (rowed : Rowed x q m) (so : Sound x) where
  abbrev s : List ℕ
  s = sources_in t q m (replicate accesses 0)

  row_mem : (j : ℕ) → j < m → Memᴰ (row_in q j) x.rows
  row_mem j h = subst (λ (l : List Row). Memᴰ (row_in q j) l) (sym rowed) (each_mem (row_in q) (from 0 m) j (from_mem m 0 j (omega arith) (omega arith)))

  row_place_lem : (p : Row) → Memᴰ p x.rows → (j : ℕ) × ((j < m) × (row_in q j ≡ p))
  row_place_lem p k =
      let r = each_elim (row_in q) (from 0 m) p (subst (λ (l : List Row). Memᴰ p l) rowed k) in
      let z = from_elim m 0 r.0 r.1.0 in
      (r.0, (omega (arith, z.1), r.1.1))

  module _ (p : Row) (k : Memᴰ p x.rows) where
    reader_lt : p.reader < slots
    reader_lt = let z = tb.count in let y = tb.few in let d = reader_inside x so p k in omega arith

    writer_lt : p.writer < slots
    writer_lt = let z = tb.count in let y = tb.few in let d = writer_inside x so p k in omega arith

    of_reader_lem : at_row x p p.reader ≡ shape_in t (slot_in t p.reader p.address)
    unfolding at_row
    of_reader_lem =
        let e = tb.shape_at_lem p.reader p.address reader_lt in
        e ∙ sym (at_slot_of t p.reader p.address (ap (λ (z : Shape). covers z p.address) (sym e) ∙ T_true _ (reads_covers _ _ (so.row_reads p k))))

    of_writer_lem : at_row x p p.writer ≡ shape_in t (slot_in t p.writer p.address)
    unfolding at_row
    of_writer_lem =
        let e = tb.shape_at_lem p.writer p.address writer_lt in
        e ∙ sym (at_slot_of t p.writer p.address (ap (λ (z : Shape). covers z p.address) (sym e) ∙ T_true _ (writes_covers _ _ (so.row_writes p k))))

    covers_own : T (covers (shape_in t (slot_in t p.reader p.address)) p.address)
    unfolding at_row
    covers_own = subst (λ (z : Shape). T (covers z p.address)) of_reader_lem (reads_covers _ _ (so.row_reads p k))

    untorn_same : untorn x p ≡ untorn_in t p
    unfolding untorn untorn_in
    untorn_same =
        let a = of_reader_lem ∙ ap (λ (e : ℕ). shape_in t (slot_in t e p.address)) (sym (mod-eq_of_lt reader_lt)) in
        let b = of_writer_lem ∙ ap (λ (e : ℕ). shape_in t (slot_in t e p.address)) (sym (mod-eq_of_lt writer_lt)) in
        λ i. tear_free (a i) and tear_free (b i) and equal (a i) (b i)

  -- a row that the model finds untorn is a source
  sourced : (e w : ℕ) (p : Row) → Memᴰ p x.rows → T (untorn_from x e w p) → Has (get_or s (slot_in t e p.address) 0) w
  unfolding untorn_from
  sourced e w p k u =
      let a = and_elim (eqb p.reader e) (eqb p.writer w and untorn x p) u in
      let b = and_elim (eqb p.writer w) (untorn x p) a.1 in
      let r = eqb-true p.reader e (T_true _ a.0) in
      let j = row_place_lem p k in
      let small = subst (λ (d : ℕ). d < slots) r (reader_lt p k) in
      (sources_iff t q m (slot_in t e p.address) w (slot_lt t e p.address small)).1 (
        j.0,
        (
          j.1.0,
          record {
            untorn = ap (untorn_in t) j.1.1 ∙ sym (untorn_same p k) ∙ T_true _ b.1;
            slot = ap (λ (y : Row). slot_in t y.reader y.address) j.1.1 ∙ ap (λ (d : ℕ). slot_in t d p.address) r;
            writer = ap (λ (y : Row). y.writer) j.1.1 ∙ eqb-true p.writer w (T_true _ b.0);
          },
        ),
      )

  -- two sources of one of e's accesses
  abbrev Both : ℕ → ℕ → ℕ → Type 0
  Both e w v = (k : ℕ) × (((k ≡ 2 * e) ⊎ (k ≡ 2 * e + 1)) × (Has (get_or s k 0) w × Has (get_or s k 0) v))

  slot_is : (e a : ℕ) → (slot_in t e a ≡ 2 * e) ⊎ (slot_in t e a ≡ 2 * e + 1)
  slot_is e a = by_bool (covers (shape_in t (2 * e)) a) (λ c. inl (slot_first t e a c)) (λ c. inr (slot_second t e a c))

  pub torn_forth : (e w v : ℕ) → T (breaks25 x e w v) → (w < v) × Both e w v
  unfolding breaks25 untorn_from
  torn_forth e w v h =
      let g = and_elim (ltb w v) _ h in
      let a = any_elim _ x.rows g.1 in
      let b = and_elim (untorn_from x e w a.0) _ a.2 in
      let c = any_elim _ x.rows b.1 in
      let d = and_elim (untorn_from x e v c.0) (equal (of_reader x a.0) (of_reader x c.0)) c.2 in
      let ra = eqb-true a.0.reader e (T_true _ (and_elim _ _ b.0).0) in
      let rc = eqb-true c.0.reader e (T_true _ (and_elim _ _ d.0).0) in
      let same : slot_in t e a.0.address ≡ slot_in t e c.0.address =
      slot_one t e a.0.address c.0.address
      (subst (λ (z : ℕ). T (covers (shape_in t (slot_in t z a.0.address)) a.0.address)) ra (covers_own a.0 a.1))
      (subst (λ (z : ℕ). T (covers (shape_in t (slot_in t z c.0.address)) c.0.address)) rc (covers_own c.0 c.1))
      (subst (λ (z : ℕ). T (equal (shape_in t (slot_in t e a.0.address)) (shape_in t (slot_in t z c.0.address)))) rc
      (subst (λ (z : ℕ). T (equal (shape_in t (slot_in t z a.0.address)) (shape_in t (slot_in t c.0.reader c.0.address)))) ra
      (subst (λ (z : Shape). T (equal (shape_in t (slot_in t a.0.reader a.0.address)) z)) (of_reader_lem c.0 c.1)
      (subst (λ (z : Shape). T (equal z (of_reader x c.0))) (of_reader_lem a.0 a.1) d.1)))) in (
        ltb-true w v (T_true _ g.0),
        (
          slot_in t e a.0.address,
          (
            slot_is e a.0.address,
            (sourced e w a.0 a.1 b.0, subst (λ (k : ℕ). Has (get_or s k 0) v) (sym same) (sourced e v c.0 c.1 d.0)),
          ),
        ),
      )

  -- ---- the other way round

  slot_lt_of : (e k : ℕ) → e < slots → (k ≡ 2 * e) ⊎ (k ≡ 2 * e + 1) → k < accesses
  slot_lt_of e k h (inl z) = omega arith
  slot_lt_of e k h (inr z) = omega arith

  owner : (e d k : ℕ) → (k ≡ 2 * e) ⊎ (k ≡ 2 * e + 1) → (k ≡ 2 * d) ⊎ (k ≡ 2 * d + 1) → d ≡ e
  owner e d k (inl y) (inl z) = omega arith
  owner e d k (inl y) (inr z) = omega arith
  owner e d k (inr y) (inl z) = omega arith
  owner e d k (inr y) (inr z) = omega arith

  -- the row that makes a source, as the model sees it
  pub record Of (e w k : ℕ) : Type 0 where
    pub row : Row
    pub among : Memᴰ row x.rows
    pub from_w : T (untorn_from x e w row)
    pub shape : of_reader x row ≡ shape_in t k

  source_row : (e w k : ℕ) → e < slots → (k ≡ 2 * e) ⊎ (k ≡ 2 * e + 1) → Has (get_or s k 0) w → Of e w k
  unfolding untorn_from
  source_row e w k h c g =
      let i = (sources_iff t q m k w (slot_lt_of e k h c)).0 g in
      let p = row_in q i.0 in
      let a = row_mem i.0 i.1.0 in
      let u = i.1.1 in
      let o : p.reader ≡ e = owner e p.reader k c (⊎_elim (λ z. inl (sym u.slot ∙ z)) (λ z. inr (sym u.slot ∙ z)) (slot_is p.reader p.address)) in
      record {
        row = p;
        among = a;
        from_w = and_intro _ _ (true_T _ (eq-eqb p.reader e o)) (and_intro _ _ (true_T _ (eq-eqb p.writer w u.writer)) (true_T _ (untorn_same p a ∙ u.untorn)));
        shape = of_reader_lem p a ∙ ap (shape_in t) u.slot;
      }

  source_lt : (e w k : ℕ) → e < slots → (k ≡ 2 * e) ⊎ (k ≡ 2 * e + 1) → Has (get_or s k 0) w → w < n
  source_lt e w k h c g =
      let i = (sources_iff t q m k w (slot_lt_of e k h c)).0 g in
      let d = writer_inside x so (row_in q i.0) (row_mem i.0 i.1.0) in
      let y = i.1.1.writer in
      let z = tb.count in
      omega arith

  pub torn_back : (e w v : ℕ) → e < slots → w < v → Both e w v → T (breaks25 x e w v)
  unfolding breaks25
  torn_back e w v h l b =
      let a = source_row e w b.0 h b.1.0 b.1.1.0 in
      let c = source_row e v b.0 h b.1.0 b.1.1.1 in
      let same : T (equal (of_reader x a.row) (of_reader x c.row)) =
      subst (λ (z : Shape). T (equal z (of_reader x c.row))) (sym a.shape) (subst (λ (z : Shape). T (equal (shape_in t b.0) z)) (sym c.shape) (equal_self (shape_in t b.0))) in
      and_intro (ltb w v) _ (true_T _ (lt-ltb w v l))
      (any_intro _ x.rows a.row a.among (and_intro (untorn_from x e w a.row) _ a.from_w
      (any_intro _ x.rows c.row c.among (and_intro (untorn_from x e v c.row) _ c.from_w same))))

  -- ---- as one number

  two_parts : (k c : ℕ) → two_in k c ≡ true → (c / slots < c % slots) × (Has k (c / slots) × Has k (c % slots))
  unfolding two_in
  two_parts k c h =
      let a = and_both (ltb (c / slots) (c % slots)) _ h in
      let b = and_both (mem k (c / slots)) (mem k (c % slots)) a.1 in
      (ltb-true (c / slots) (c % slots) a.0, (b.0, b.1))

  two_whole : (k w v : ℕ) → w < v → v < slots → Has k w → Has k v → two_in k (w * slots + v) ≡ true
  unfolding two_in
  two_whole k w v l h a b =
      let i : (w * slots + v) / slots ≡ w = omega arith in
      let j : (w * slots + v) % slots ≡ v = omega arith in
      and_holds (ltb ((w * slots + v) / slots) ((w * slots + v) % slots)) _ (lt-ltb ((w * slots + v) / slots) ((w * slots + v) % slots) (omega arith))
      ∙ and_holds (mem k ((w * slots + v) / slots)) _ (ap (mem k) i ∙ a) ∙ ap (mem k) j ∙ b

  pair_both : (e c : ℕ) → two_sources_in s e c ≡ true → (c / slots < c % slots) × Both e (c / slots) (c % slots)
  unfolding two_sources_in
  pair_both e c h =
      ⊎_elim (λ g. let p = two_parts (get_or s (2 * e) 0) c g in (p.0, (2 * e, (inl refl, (p.1.0, p.1.1)))))
      (λ g. let p = two_parts (get_or s (2 * e + 1) 0) c g in (p.0, (2 * e + 1, (inr refl, (p.1.0, p.1.1)))))
      (or_either (two_in (get_or s (2 * e) 0) c) (two_in (get_or s (2 * e + 1) 0) c) h)

  both_pair : (e w v : ℕ) → w < v → v < slots → Both e w v → two_sources_in s e (w * slots + v) ≡ true
  unfolding two_sources_in
  both_pair e w v l h b =
      ⊎_elim
      (λ z. or_holds _ _ (two_whole (get_or s (2 * e) 0) w v l h (subst (λ (k : ℕ). Has (get_or s k 0) w) z b.1.1.0) (subst (λ (k : ℕ). Has (get_or s k 0) v) z b.1.1.1)))
      (λ z. or_second _ _ (two_whole (get_or s (2 * e + 1) 0) w v l h (subst (λ (k : ℕ). Has (get_or s k 0) w) z b.1.1.0) (subst (λ (k : ℕ). Has (get_or s k 0) v) z b.1.1.1)))
      b.1.0

  module _ (e : ℕ) (h : e < n) where
    abbrev c : ℕ
    c = first_of (two_sources_in s e) pairs

    small : e < slots
    small = let y = tb.few in omega arith

    not_torn : (w v : ℕ) → (w < v → v < slots → w * slots + v < c) → breaks25 x e w v ≡ false
    not_torn w v low =
        T_false (breaks25 x e w v) (λ g.
        let f = torn_forth e w v g in
        let k = f.1 in
        let y = tb.few in
        let l = source_lt e v k.0 small k.1.0 k.1.1.1 in
        let d : v < slots = omega arith in
        not_both_ways (both_pair e w v f.0 d k) ((first_of_lem (two_sources_in s e) pairs).least (w * slots + v) (low f.0 d)))

    pub torn_at : torn_in s e ≡ true → find (λ (p : ℕ × ℕ). breaks25 x e p.0 p.1) (across (from 0 n) (from 0 n)) ≡ some (c / slots, c % slots)
    unfolding torn_in
    torn_at g =
        let l = ltb-true c pairs g in
        let b = pair_both e c ((first_of_lem (two_sources_in s e) pairs).passes l) in
        let k = b.1 in
        least_pair (λ (p : ℕ × ℕ). breaks25 x e p.0 p.1) n (c / slots) (c % slots) (T_true _ (torn_back e (c / slots) (c % slots) small b.0 k))
        (λ d v z. not_torn d v (λ y i. omega arith)) (λ v z. not_torn (c / slots) v (λ y i. omega arith))
        (source_lt e (c / slots) k.0 small k.1.0 k.1.1.0) (source_lt e (c % slots) k.0 small k.1.0 k.1.1.1)

    pub torn_not : torn_in s e ≡ false → find (λ (p : ℕ × ℕ). breaks25 x e p.0 p.1) (across (from 0 n) (from 0 n)) ≡ none
    unfolding torn_in
    torn_not g =
        let l = ltb-false c pairs g in no_pair_lem (λ (p : ℕ × ℕ). breaks25 x e p.0 p.1) n (λ d v. not_torn d v (λ y i. omega arith))

  pub ruled25 : found_of (rule25_in t n q m) ≡ fault25 x
  unfolding rule25_in named_in fault25 numbers
  ruled25 =
      found_named (torn_in s) n 25 (λ (e : ℕ). Torn e (first_of (two_sources_in s e) pairs / slots) (first_of (two_sources_in s e) pairs % slots))
      ∙ sym (find_firsts (λ (e : ℕ). e) (λ (p : ℕ × (ℕ × ℕ)). breaks25 x p.0 p.1.0 p.1.1) (λ (p : ℕ × (ℕ × ℕ)). faulty 25 (Torn p.0 p.1.0 p.1.1))
      (across (from 0 n) (from 0 n)) (torn_in s) (λ (e : ℕ). (first_of (two_sources_in s e) pairs / slots, first_of (two_sources_in s e) pairs % slots)) (from 0 n)
      (λ j k g. let z = from_elim n 0 j k in torn_at j (omega arith) g) (λ j k g. let z = from_elim n 0 j k in torn_not j (omega arith) g))
      ∙ ap (λ (l : List ℕ). mapped (λ (p : ℕ × (ℕ × ℕ)). faulty 25 (Torn p.0 p.1.0 p.1.1)) (find (λ (p : ℕ × (ℕ × ℕ)). breaks25 x p.0 p.1.0 p.1.1) (across l (across (from 0 n) (from 0 n))))) (each_id (from 0 n))
      ∙ ap (λ (k : ℕ). mapped (λ (p : ℕ × (ℕ × ℕ)). faulty 25 (Torn p.0 p.1.0 p.1.1)) (find (λ (p : ℕ × (ℕ × ℕ)). breaks25 x p.0 p.1.0 p.1.1) (across (from 0 k) (across (from 0 k) (from 0 k))))) (sym tb.count)
