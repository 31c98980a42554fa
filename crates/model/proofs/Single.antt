-- For events with one access the definitions are 01's sentences over events (specs/Sentences.antt). Assumes nothing.
--     one_access                                 what the reader promises
--     shape_own, shape_found                     the access at a byte is the event's own
--     reads_one, writes_one, two_one             what the lookups say of it
--     one_syncs, syncs_row, one_init, one_24, one_25, one_bars, one_unsettled, one_meets     sentence by sentence
--     reduced                                    all of them
use mathlib.Core.Path.{◌≡◌, sym, ◌∙◌, ap, subst}
use mathlib.Core.Logic.{◌⊎◌, inl, inr, ◌↔◌}
use mathlib.Core.Bool.{Bool}
use mathlib.Core.List.Memᴰ
use mathlib.Core.List.{List, Memᴰ}
use Prim.Native.Nat.{ℕ, ◌≤◌, ◌<◌}
use native.Mathlib.Omega.{arith}
use native.Mathlib.Decide.{dec_lt}
use lib.Dec.{T, eqb, ltb, eqb→eq, eqb_refl}
use lib.ListN.{length}
use Rattle.basis.specs.Test.{◌and◌, ◌or◌, non, any}
use Rattle.basis.proofs.BoolLaws.{and_elim, and_intro, or_cases, or_right, T_true, false_T}
use Rattle.basis.proofs.LoopLaws.{any_elim, any_intro, any_one}
use Rattle.format.specs.declared.Shape.{Shape}
use Rattle.format.specs.declared.Row.{Row}
use Rattle.format.specs.declared.Pair.{Pair}
use Rattle.format.specs.Shape.{no_shape, reads, writes, marks, sc, tear_free, covers, overlap, equal, both_sc}
use Rattle.format.specs.Event.{Access, Event, is_init, is_marker, nobody, access_at, shape_at, reads_at, writes_at}
use Rattle.format.specs.Execution.{Execution, event}
use Rattle.format.proofs.EventLaws.{one, access_hit, writes_at_one, reads_at_one, is_marker_one, is_marker_nobody, writes_at_nobody, reads_at_nobody, covers_nothing}
use Rattle.format.proofs.ShapeLaws.{equal_sym, equal_self, covers_equal}
use Rattle.format.proofs.ExecutionLaws.{event_out, shape_mem, reads_covers, writes_covers, covering_inside}
use Rattle.parse.specs.Promise.{WellFormed}
use Rattle.orders.specs.Order.{Precedes, Meets}
use Rattle.model.specs.Events.{at_row, of_reader, of_writer, any_two}
use Rattle.model.specs.Happens.{row_syncs, synchronises, init_first}
use Rattle.model.specs.Rules.{breaks24, untorn, untorn_from, breaks25}
use Rattle.model.specs.Bar.{bar_a, bar_b, bar_c, row_bars}
use Rattle.model.specs.Order.{problem}
use Rattle.model.specs.Unsettled.{clash, unsettled}
use Rattle.model.specs.Sentences.{first_shape, shape, OneAccessEach, sync01, init01, between01, torn01, bars01, unsettled01, Meets01, Reduced}
use Rattle.model.proofs.Sound.{Sound}
use Rattle.model.proofs.BarLaws.{row_bars_lem, bars_row, bar_elim, bar_intro}
use Rattle.orders.proofs.PlaceLaws.{distinct_apart}

pub one_access : (x : Execution) → WellFormed x → OneAccessEach x
one_access x wf e h = let w = wf.events e h in (w.access, w.one_access)

module _ (x : Execution) (each-one : OneAccessEach x) where
  shape_inside : (e : ℕ) (h : e < length x.events) → shape x e ≡ (each-one e h).0.shape
  unfolding shape first_shape
  shape_inside e h = ap first_shape (each-one e h).1

  shape_outside : (e : ℕ) → length x.events ≤ e → shape x e ≡ no_shape
  unfolding shape first_shape
  shape_outside e h = ap (λ (d : Event). first_shape d.accesses) (event_out x e h)

  -- an event that covers a byte does so by its own access
  pub shape_own : (e n : ℕ) → T (covers (shape_at (event x e) n) n) → shape_at (event x e) n ≡ shape x e
  shape_own e n c =
      let w = shape_mem (event x e) n c in
      let h = covering_inside x e n c in
      let q = Memᴰ.eq_of_singleton (subst (λ (l : List Access). Memᴰ w.0 l) (each-one e h).1 w.1) in
      sym w.2 ∙ ap (λ (b : Access). b.shape) q ∙ sym (shape_inside e h)

  -- the event as one with a single access
  as_one : (e : ℕ) (h : e < length x.events) → event x e ≡ one (event x e).agent (each-one e h).0
  as_one e h = ap (λ (l : List Access). record { agent = (event x e).agent; accesses = l }) (each-one e h).1

  pub shape_found : (e n : ℕ) → T (covers (shape x e) n) → shape_at (event x e) n ≡ shape x e
  unfolding shape_at access_at
  shape_found e n c = go (dec_lt e (length x.events))
    where
      go : Dec (e < length x.events) → shape_at (event x e) n ≡ shape x e
      go (no h) = absurd (false_T _ (covers_nothing n) (subst (λ (a : Shape). T (covers a n)) (shape_outside e (omega arith)) c))
      go (yes h) =
          let k = T_true _ (subst (λ (b : Shape). T (covers b n)) (shape_inside e h) c) in
          ap (λ (d : Event). shape_at d n) (as_one e h) ∙ ap (λ (b : Access). b.shape) (access_hit (event x e).agent (each-one e h).0 n k) ∙ sym (shape_inside e h)

  asked : (f : Event → Bool) (g : Shape → Bool) → f nobody ≡ g no_shape → ((agent : ℕ) (a : Access) → f (one agent a) ≡ g a.shape) → (e : ℕ) → f (event x e) ≡ g (shape x e)
  asked f g zero some e = go (dec_lt e (length x.events))
    where
      go : Dec (e < length x.events) → f (event x e) ≡ g (shape x e)
      go (no h) = ap f (event_out x e (omega arith)) ∙ zero ∙ sym (ap g (shape_outside e (omega arith)))
      go (yes h) = ap f (as_one e h) ∙ some (event x e).agent (each-one e h).0 ∙ sym (ap g (shape_inside e h))

  pub writes_one : (e n : ℕ) → writes_at (event x e) n ≡ (covers (shape x e) n and writes (shape x e))
  unfolding ◌and◌
  writes_one e n = asked (λ d. writes_at d n) (λ a. covers a n and writes a) (writes_at_nobody n ∙ sym (ap (λ (b : Bool). b and writes no_shape) (covers_nothing n))) (λ agent a. writes_at_one agent a n) e

  pub reads_one : (e n : ℕ) → reads_at (event x e) n ≡ (covers (shape x e) n and reads (shape x e))
  unfolding ◌and◌
  reads_one e n = asked (λ d. reads_at d n) (λ a. covers a n and reads a) (reads_at_nobody n ∙ sym (ap (λ (b : Bool). b and reads no_shape) (covers_nothing n))) (λ agent a. reads_at_one agent a n) e

  pub two_one : (f : Shape → Shape → Bool) (e d : ℕ) → e < length x.events → d < length x.events → any_two f (event x e) (event x d) ≡ f (shape x e) (shape x d)
  unfolding any_two
  two_one f e d h k =
      let a = each-one e h in
      let b = each-one d k in
      ap (λ (l : List Access). any (λ (p : Access). any (λ (q : Access). f p.shape q.shape) (event x d).accesses) l) a.1
      ∙ any_one (λ (p : Access). any (λ (q : Access). f p.shape q.shape) (event x d).accesses) a.0
      ∙ ap (λ (l : List Access). any (λ (q : Access). f a.0.shape q.shape) l) b.1
      ∙ any_one (λ (q : Access). f a.0.shape q.shape) b.0
      ∙ ap (λ (s : Shape). f s b.0.shape) (sym (shape_inside e h)) ∙ ap (λ (s : Shape). f (shape x e) s) (sym (shape_inside d k))

  -- ---- sentence by sentence

  pub one_init : (e d : ℕ) → e < length x.events → d < length x.events → init_first x e d ≡ init01 x e d
  unfolding init_first
  one_init e d h k = ap (λ (b : Bool). is_init (event x e) and non (eqb e d) and b) (two_one overlap e d h k)

  pub one_24 : (hb : ℕ → ℕ → Bool) (r : Row) (v : ℕ) → breaks24 x hb r v ≡ between01 x hb r v
  unfolding breaks24
  one_24 hb r v = ap (λ (b : Bool). b and hb r.writer v and hb v r.reader) (writes_one v r.address)

  pub one_unsettled : (hb : ℕ → ℕ → Bool) (e d : ℕ) → e < length x.events → d < length x.events → unsettled x hb e d ≡ unsettled01 x hb e d
  unfolding unsettled clash both_sc
  one_unsettled hb e d h k = ap (λ (b : Bool). ltb e d and non (hb e d) and non (hb d e) and b) (two_one clash e d h k)

  module _ (so : Sound x) where
    module _ (r : Row) (m : Memᴰ r x.rows) where
      pub reader_one : of_reader x r ≡ shape x r.reader
      unfolding at_row
      reader_one = shape_own r.reader r.address (reads_covers _ _ (so.row_reads r m))

      pub writer_one : of_writer x r ≡ shape x r.writer
      unfolding at_row
      writer_one = shape_own r.writer r.address (writes_covers _ _ (so.row_writes r m))

      reader_covers : T (covers (shape x r.reader) r.address)
      unfolding at_row
      reader_covers = subst (λ (a : Shape). T (covers a r.address)) reader_one (reads_covers _ _ (so.row_reads r m))

      writer_covers : T (covers (shape x r.writer) r.address)
      unfolding at_row
      writer_covers = subst (λ (a : Shape). T (covers a r.address)) writer_one (writes_covers _ _ (so.row_writes r m))

      pub one_syncs : row_syncs x r ≡ sync01 x r.writer r.reader
      unfolding row_syncs both_sc
      one_syncs = ap (λ (a : Shape). both_sc a (of_reader x r)) writer_one ∙ ap (λ (a : Shape). both_sc (shape x r.writer) a) reader_one

      -- a reader is no marker
      not_marker : T (is_marker (event x r.reader)) → ⊥
      unfolding marks reads
      not_marker t = go (and_elim _ _ (subst T (reads_one r.reader r.address) (so.row_reads r m))).1
        where
          four : (shape x r.reader).kind ≡ 4
          four = eqb→eq _ _ (subst T (asked is_marker marks is_marker_nobody (λ agent a. is_marker_one agent a) r.reader) t)

          go : T (reads (shape x r.reader)) → ⊥
          go s = kinds (or_cases _ _ s)
            where
              kinds : T (eqb (shape x r.reader).kind 1) ⊎ T (eqb (shape x r.reader).kind 3) → ⊥
              kinds (inl q) = omega (arith, four, eqb→eq (shape x r.reader).kind 1 q)
              kinds (inr q) = omega (arith, four, eqb→eq (shape x r.reader).kind 3 q)

    -- a pair joins markers, so that W synchronises with R by a row of the two, and each such row has the same two accesses
    same_row : (r q : Row) → Memᴰ r x.rows → Memᴰ q x.rows → q.writer ≡ r.writer → q.reader ≡ r.reader → T (row_syncs x q) → T (row_syncs x r)
    same_row r q m k h j t =
        subst T (sym (one_syncs r m))
        (subst (λ (e : ℕ). T (sync01 x r.writer e)) j (subst (λ (e : ℕ). T (sync01 x e q.reader)) h (subst T (one_syncs q k) t)))

    pub syncs_row : (r : Row) → Memᴰ r x.rows → T (synchronises x r.writer r.reader) ↔ T (row_syncs x r)
    unfolding synchronises
    syncs_row r m = (
      λ t. go (or_cases _ _ t),
      λ t. or_right _ _ (any_intro (λ (q : Row). eqb q.writer r.writer and eqb q.reader r.reader and row_syncs x q) x.rows r m
          (and_intro _ _ (eqb_refl r.writer) (and_intro _ _ (eqb_refl r.reader) t))),
    )
      where
        go : T (any (λ (p : Pair). eqb p.first r.writer and eqb p.second r.reader) x.pairs)
            ⊎ T (any (λ (q : Row). eqb q.writer r.writer and eqb q.reader r.reader and row_syncs x q) x.rows) → T (row_syncs x r)
        go (inl s) =
            let w = any_elim (λ (p : Pair). eqb p.first r.writer and eqb p.second r.reader) x.pairs s in
            absurd (not_marker r m (subst (λ (e : ℕ). T (is_marker (event x e))) (eqb→eq _ _ (and_elim _ _ w.2).1) (so.pair_marker w.0 w.1)))
        go (inr s) =
            let w = any_elim (λ (q : Row). eqb q.writer r.writer and eqb q.reader r.reader and row_syncs x q) x.rows s in
            let a = and_elim _ _ w.2 in
            let b = and_elim _ _ a.1 in
            same_row r w.0 m w.1 (eqb→eq _ _ a.0) (eqb→eq _ _ b.0) b.1

    -- ---- rule 25

    untorn_one : (r : Row) → Memᴰ r x.rows → untorn x r ≡ (tear_free (shape x r.reader) and tear_free (shape x r.writer) and equal (shape x r.reader) (shape x r.writer))
    unfolding untorn
    untorn_one r m =
        ap (λ (a : Shape). tear_free a and tear_free (of_writer x r) and equal a (of_writer x r)) (reader_one r m)
        ∙ ap (λ (a : Shape). tear_free (shape x r.reader) and tear_free a and equal (shape x r.reader) a) (writer_one r m)

    abbrev Whole : ℕ → ℕ → Type 0
    Whole r w = T (tear_free (shape x r) and tear_free (shape x w) and equal (shape x r) (shape x w))

    abbrev row_of : ℕ → ℕ → Row → Bool
    row_of r w p = eqb p.reader r and eqb p.writer w

    ends : (r w : ℕ) (p : Row) → Memᴰ p x.rows → T (untorn_from x r w p) → T (row_of r w p) × Whole r w
    unfolding untorn_from
    ends r w p m t =
        let a = and_elim _ _ t in
        let b = and_elim _ _ a.1 in
        (and_intro _ _ a.0 b.0, subst (λ (e : ℕ). Whole r e) (eqb→eq _ _ b.0) (subst (λ (e : ℕ). Whole e p.writer) (eqb→eq _ _ a.0) (subst T (untorn_one p m) b.1)))

    ends_back : (r w : ℕ) (p : Row) → Memᴰ p x.rows → T (row_of r w p) → Whole r w → T (untorn_from x r w p)
    unfolding untorn_from
    ends_back r w p m t s =
        let a = and_elim _ _ t in
        and_intro _ _ a.0 (and_intro _ _ a.1 (subst T (sym (untorn_one p m))
        (subst (λ (e : ℕ). Whole e p.writer) (sym (eqb→eq _ _ a.0)) (subst (λ (e : ℕ). Whole r e) (sym (eqb→eq _ _ a.1)) s))))

    reader_of_lem : (r w : ℕ) (p : Row) → Memᴰ p x.rows → T (row_of r w p) → of_reader x p ≡ shape x r
    reader_of_lem r w p m t = reader_one p m ∙ ap (shape x) (eqb→eq _ _ (and_elim _ _ t).0)

    pub one_25 : (r w v : ℕ) → T (breaks25 x r w v) ↔ T (torn01 x r w v)
    unfolding breaks25
    one_25 r w v = (to, back)
      where
        second : Row → Row → Bool
        second p q = untorn_from x r v q and equal (of_reader x p) (of_reader x q)

        first : Row → Bool
        first p = untorn_from x r w p and any (second p) x.rows

        to : T (ltb w v and any first x.rows) → T (torn01 x r w v)
        to t =
            let a = and_elim _ _ t in
            let b = any_elim first x.rows a.1 in
            let c = and_elim _ _ b.2 in
            let d = any_elim (second b.0) x.rows c.1 in
            let p = ends r w b.0 b.1 c.0 in
            let q = ends r v d.0 d.1 (and_elim _ _ d.2).0 in
            let p1 = and_elim _ _ p.1 in
            let p2 = and_elim _ _ p1.1 in
            let q2 = and_elim _ _ (and_elim _ _ q.1).1 in
            and_intro _ _ p1.0 (and_intro _ _ p2.0 (and_intro _ _ q2.0 (and_intro _ _ p2.1 (and_intro _ _ q2.1 (and_intro _ _ a.0
            (and_intro _ _ (any_intro (row_of r w) x.rows b.0 b.1 p.0) (any_intro (row_of r v) x.rows d.0 d.1 q.0)))))))

        back : T (torn01 x r w v) → T (ltb w v and any first x.rows)
        back t =
            let tr = and_elim _ _ t in
            let tw = and_elim _ _ tr.1 in
            let tv = and_elim _ _ tw.1 in
            let ew = and_elim _ _ tv.1 in
            let ev = and_elim _ _ ew.1 in
            let lt = and_elim _ _ ev.1 in
            let rows = and_elim _ _ lt.1 in
            let b = any_elim (row_of r w) x.rows rows.0 in
            let d = any_elim (row_of r v) x.rows rows.1 in
            let same : T (equal (of_reader x b.0) (of_reader x d.0)) =
            subst (λ (k : Shape). T (equal k (of_reader x d.0))) (sym (reader_of_lem r w b.0 b.1 b.2))
            (subst (λ (k : Shape). T (equal (shape x r) k)) (sym (reader_of_lem r v d.0 d.1 d.2)) (equal_self (shape x r))) in
            and_intro _ _ lt.0 (any_intro first x.rows b.0 b.1
            (and_intro _ _ (ends_back r w b.0 b.1 b.2 (and_intro _ _ tr.0 (and_intro _ _ tw.0 ew.0)))
            (any_intro (second b.0) x.rows d.0 d.1 (and_intro _ _ (ends_back r v d.0 d.1 d.2 (and_intro _ _ tr.0 (and_intro _ _ tv.0 ev.0))) same))))

    -- ---- bars

    module _ (hb : ℕ → ℕ → Bool) where
      -- the three reasons, with the three accesses named
      unfoldable three : Row → ℕ → Shape → Shape → Shape → Bool
      three r v av aw ar =
          (sc aw and sc ar and equal aw ar) and equal av ar
          or hb r.writer r.reader and hb v r.reader and sc aw and equal aw av
          or hb r.writer r.reader and hb r.writer v and sc ar and equal av ar

      -- V's range is that of W or of R, so it covers the row's byte
      between_covers : (r : Row) (v : ℕ) → Memᴰ r x.rows → T (three r v (shape x v) (shape x r.writer) (shape x r.reader)) → T (covers (shape x v) r.address)
      unfolding three
      between_covers r v m t = on (or_cases _ _ t)
        where
          by_reader : T (equal (shape x v) (shape x r.reader)) → T (covers (shape x v) r.address)
          by_reader e = covers_equal _ _ _ (equal_sym _ _ e) (reader_covers r m)

          last : (a b c d : Bool) → T (a and b and c and d) → T d
          last a b c d k = (and_elim _ _ (and_elim _ _ (and_elim _ _ k).1).1).1

          rest : T (hb r.writer r.reader and hb v r.reader and sc (shape x r.writer) and equal (shape x r.writer) (shape x v))
              ⊎ T (hb r.writer r.reader and hb r.writer v and sc (shape x r.reader) and equal (shape x v) (shape x r.reader)) → T (covers (shape x v) r.address)
          rest (inl k) = covers_equal _ _ _ (last _ _ _ _ k) (writer_covers r m)
          rest (inr k) = by_reader (last _ _ _ _ k)

          on : T ((sc (shape x r.writer) and sc (shape x r.reader) and equal (shape x r.writer) (shape x r.reader)) and equal (shape x v) (shape x r.reader))
              ⊎ T (hb r.writer r.reader and hb v r.reader and sc (shape x r.writer) and equal (shape x r.writer) (shape x v)
              or hb r.writer r.reader and hb r.writer v and sc (shape x r.reader) and equal (shape x v) (shape x r.reader)) → T (covers (shape x v) r.address)
          on (inl k) = by_reader (and_elim _ _ k).1
          on (inr k) = rest (or_cases _ _ k)

      module _ (r : Row) (v : ℕ) (m : Memᴰ r x.rows) where
        named : at_row x r v ≡ shape x v → three r v (at_row x r v) (of_writer x r) (of_reader x r) ≡ three r v (shape x v) (shape x r.writer) (shape x r.reader)
        named q =
            ap (λ (a : Shape). three r v a (of_writer x r) (of_reader x r)) q ∙ ap (λ (a : Shape). three r v (shape x v) a (of_reader x r)) (writer_one r m)
            ∙ ap (λ (a : Shape). three r v (shape x v) (shape x r.writer) a) (reader_one r m)

        bars_to : T (row_bars x hb r v) → T (bars01 x hb r.reader r.writer v)
        unfolding three bar_a bar_b bar_c row_syncs both_sc at_row
        bars_to t =
            let b = row_bars_lem x hb r v t in
            let q = shape_own v r.address (writes_covers _ _ b.writes) in
            and_intro _ _ (and_elim _ _ (subst T (writes_one v r.address) b.writes)).1
            (and_intro _ _ (subst (λ (a : Shape). T (sc a)) q b.sc) (subst T (named q) b.reason))

        bars_back : (v ≡ r.reader → ⊥) → (v ≡ r.writer → ⊥) → T (bars01 x hb r.reader r.writer v) → T (row_bars x hb r v)
        unfolding three bar_a bar_b bar_c row_syncs both_sc at_row
        bars_back nr nw t =
            let a = and_elim _ _ t in
            let b = and_elim _ _ a.1 in
            let c = between_covers r v m b.1 in
            let q = shape_found v r.address c in
            bars_row x hb r v (record {
              not_reader = nr;
              not_writer = nw;
              writes = subst T (sym (writes_one v r.address)) (and_intro _ _ c a.0);
              sc = subst (λ (k : Shape). T (sc k)) (sym q) b.0;
              reason = subst T (sym (named q)) b.1;
            })

        pub one_bars : (v ≡ r.reader → ⊥) → (v ≡ r.writer → ⊥) → T (row_bars x hb r v) ↔ T (bars01 x hb r.reader r.writer v)
        one_bars nr nw = (bars_to, bars_back nr nw)

      pub one_meets : (o : List ℕ) → Meets (problem x hb) o ↔ Meets01 x hb o
      one_meets o = (
        λ k. record {
          events = k.events;
          all = k.all;
          once = k.once;
          contains = k.before;
          no_row = λ r v m t a b. k.bars r.reader r.writer v (bar_intro x hb r v m (bars_back r v m
              (λ e. distinct_apart v o k.once (subst (λ (d : ℕ). Precedes v d o) (sym e) b))
              (λ e. distinct_apart v o k.once (subst (λ (d : ℕ). Precedes d v o) (sym e) a)) t)) a b;
        },
        λ k. record {
          events = k.events;
          all = k.all;
          once = k.once;
          before = k.contains;
          bars = λ r w v t a b. let p = bar_elim x hb r w v t in
              k.no_row p.0 v p.1 (bars_to p.0 v p.1 p.4) (subst (λ (d : ℕ). Precedes d v o) (sym p.3) a) (subst (λ (d : ℕ). Precedes v d o) (sym p.2) b);
        },
      )

      pub reduced : Reduced x hb
      reduced = record {
        syncs = one_syncs;
        synchronises = syncs_row;
        init = one_init;
        between = one_24 hb;
        torn = one_25;
        bars = one_bars;
        unsettled = one_unsettled hb;
        meets = one_meets;
      }
