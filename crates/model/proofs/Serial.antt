-- Demand 3: where no rule is broken and no pair is unsettled, an order that meets the rules, run on a plain memory, shows each read what it saw.
-- The writer of a row happens before its reader, and no other writer of the byte stands between: each such V is settled against W and against
-- R, and every case is happens-before's, rule 24's or a bar's. Assumes nothing.
use mathlib.Core.Path.{◌≡◌, sym, ◌∙◌, subst}
use mathlib.Core.Logic.{◌⊎◌, inl, inr}
use mathlib.Core.Bool.{Bool}
use mathlib.Core.List.{List, ◌∷◌, Memᴰ}
use mathlib.Core.Option.{none}
use Prim.Native.Nat.{ℕ}
use lib.Dec.{T, eqb, eqb→eq}
use Rattle.basis.specs.Test.{◌or◌, across}
use Rattle.basis.proofs.BoolLaws.{decide, and_intro, or_left, or_right, non_intro}
use Rattle.basis.proofs.ListLaws.{across_mem}
use Rattle.basis.proofs.FindLaws.{find_none}
use Rattle.format.specs.declared.Row.{Row}
use Rattle.format.specs.Shape.{writes, covers, both_sc}
use Rattle.format.specs.Event.{shape_at, writes_at, saw, wrote}
use Rattle.format.specs.Execution.{Execution, event}
use Rattle.format.proofs.ShapeLaws.{equal_trans, both_elim, both_intro}
use Rattle.format.proofs.ExecutionLaws.{reads_covers, writes_covers, writes_writes, covering_inside}
use Rattle.orders.specs.Order.{Precedes, Distinct, Meets}
use Rattle.model.specs.Events.{numbers, at_row}
use Rattle.model.specs.Happens.{row_syncs, one, Tests}
use Rattle.model.specs.Rules.{breaks21, breaks23, breaks24, fault}
use Rattle.model.specs.Bar.{bar_a, bar_b, bar_c}
use Rattle.model.specs.Order.{problem}
use Rattle.model.specs.Unsettled.{Orderly}
use Rattle.model.specs.Memory.{run, Explains}
use Rattle.model.proofs.EventsLaws.{number_mem}
use Rattle.model.proofs.Sound.{Sound}
use Rattle.model.proofs.HappensLaws.{row_step_lem}
use Rattle.model.proofs.RulesLaws.{clean, test24}
use Rattle.model.proofs.BarLaws.{bars_row, bar_intro}
use Rattle.model.proofs.UnsettledLaws.{settles}
use Rattle.orders.proofs.PlaceLaws.{distinct_apart, distinct_loop, precedes_more, precedes_over, in_front}
use Rattle.model.proofs.MemoryLaws.{last_writer}
use Rattle.orders.proofs.OrderLaws.{precedes_in}

module _ (x : Execution) (hb : ℕ → ℕ → Bool) (so : Sound x) (tests : Tests x hb) (unbroken : fault x hb ≡ none) (orderly : Orderly x hb) where
  module _ (r : Row) (m : Memᴰ r x.rows) where
    reader_covers : T (covers (shape_at (event x r.reader) r.address) r.address)
    reader_covers = reads_covers _ _ (so.row_reads r m)

    writer_covers : T (covers (shape_at (event x r.writer) r.address) r.address)
    writer_covers = writes_covers _ _ (so.row_writes r m)

    same_byte : saw (event x r.reader) r.address ≡ wrote (event x r.writer) r.address
    unfolding breaks21
    same_byte = go (decide (eqb (saw (event x r.reader) r.address) (wrote (event x r.writer) r.address)))
      where
        go : T (eqb (saw (event x r.reader) r.address) (wrote (event x r.writer) r.address))
            ⊎ (T (eqb (saw (event x r.reader) r.address) (wrote (event x r.writer) r.address)) → ⊥)
            → saw (event x r.reader) r.address ≡ wrote (event x r.writer) r.address
        go (inl p) = eqb→eq _ _ p
        go (inr p) = absurd (find_none (breaks21 x) x.rows (clean x hb unbroken).c21 r m (non_intro _ p))

    -- the writer of a row happens before its reader
    writer_first : T (hb r.writer r.reader)
    unfolding breaks23 row_syncs at_row
    writer_first = go (settles x hb orderly r.writer r.reader r.address (λ e. so.row_differs r m (sym e)) writer_covers reader_covers (or_left _ _ (writes_writes _ _ (so.row_writes r m))))
      where
        go : T (hb r.writer r.reader) ⊎ (T (hb r.reader r.writer) ⊎ T (both_sc (shape_at (event x r.writer) r.address) (shape_at (event x r.reader) r.address)))
            → T (hb r.writer r.reader)
        go (inl p) = p
        go (inr (inl p)) = absurd (find_none (breaks23 hb) x.rows (clean x hb unbroken).c23 r m p)
        go (inr (inr p)) = (tests _ _).1 (one (row_step_lem x r m p))

    module _ (o : List ℕ) (meets : Meets (problem x hb) o) where
      -- no other writer of the byte stands between the two
      none_between : (v : ℕ) → T (writes_at (event x v) r.address) → Precedes r.writer v o → Precedes v r.reader o → ⊥
      unfolding at_row bar_a bar_b bar_c row_syncs breaks24
      none_between v t wv vr = go
          (settles x hb orderly r.writer v r.address (λ e. not_writer (sym e)) writer_covers (writes_covers _ _ t) (or_left _ _ (writes_writes _ _ (so.row_writes r m))))
          (settles x hb orderly v r.reader r.address not_reader (writes_covers _ _ t) reader_covers (or_left _ _ (writes_writes _ _ t)))
        where
          not_writer : v ≡ r.writer → ⊥
          not_writer e = distinct_apart v o meets.once (subst (λ (d : ℕ). Precedes d v o) (sym e) wv)

          not_reader : v ≡ r.reader → ⊥
          not_reader e = distinct_apart v o meets.once (subst (λ (d : ℕ). Precedes v d o) (sym e) vr)

          against : (e d : ℕ) → Precedes e d o → T (hb d e) → ⊥
          against e d b h = distinct_loop e d o meets.once b (meets.before d e h)

          barred : T (bar_a x r v or bar_b x hb r v or bar_c x hb r v) → T (Rattle.format.specs.Shape.sc (shape_at (event x v) r.address)) → ⊥
          barred b s = meets.bars r.reader r.writer v
              (bar_intro x hb r v m (bars_row x hb r v (record { not_reader = not_reader; not_writer = not_writer; writes = t; sc = s; reason = b }))) wv vr

          go : T (hb r.writer v) ⊎ (T (hb v r.writer) ⊎ T (both_sc (shape_at (event x r.writer) r.address) (shape_at (event x v) r.address)))
              → T (hb v r.reader) ⊎ (T (hb r.reader v) ⊎ T (both_sc (shape_at (event x v) r.address) (shape_at (event x r.reader) r.address))) → ⊥
          go (inl p) (inl q) = find_none (test24 x hb) (across x.rows (numbers x)) (clean x hb unbroken).c24 (r, v)
              (across_mem _ _ r v m (number_mem x v (covering_inside x v r.address (writes_covers _ _ t)))) (and_intro _ _ t (and_intro _ _ p q))
          go (inl p) (inr (inl q)) = against _ _ vr q
          go (inl p) (inr (inr q)) = let h = both_elim _ _ q in
              barred (or_right _ _ (or_right _ _ (and_intro _ _ writer_first (and_intro _ _ p (and_intro _ _ h.right h.ranges))))) h.left
          go (inr (inl p)) q = against _ _ wv p
          go (inr (inr p)) (inl q) = let h = both_elim _ _ p in
              barred (or_right _ _ (or_left _ _ (and_intro _ _ writer_first (and_intro _ _ q (and_intro _ _ h.left h.ranges))))) h.right
          go (inr (inr p)) (inr (inl q)) = against _ _ vr q
          go (inr (inr p)) (inr (inr q)) = let h = both_elim _ _ p in let k = both_elim _ _ q in
              barred (or_left _ _ (and_intro _ _ (both_intro _ _ (record { left = h.left; right = k.right; ranges = equal_trans _ _ _ h.ranges k.ranges })) k.ranges)) h.right

  pub explains : (o : List ℕ) → Meets (problem x hb) o → (m : ℕ → ℕ) → Explains x m o
  explains o meets m front rest e n split t = go (so.has_row e n t)
    where
      value : (r : Row) → Memᴰ r x.rows → r.reader ≡ e → run x m front r.address ≡ saw (event x r.reader) r.address
      value r k same =
          last_writer x r.address front m r.writer
          (in_front r.writer e front rest (subst Distinct split meets.once)
          (subst (λ (l : List ℕ). Precedes r.writer e l) split (subst (λ (d : ℕ). Precedes r.writer d o) same (meets.before _ _ (writer_first r k)))))
          (so.row_writes r k)
          (λ v s b. none_between r k o meets v s (subst (λ (l : List ℕ). Precedes r.writer v l) (sym split) (precedes_more r.writer v front (e ∷ rest) b))
          (subst (λ (l : List ℕ). Precedes v r.reader l) (sym split) (precedes_over v r.reader front (e ∷ rest) (precedes_in r.writer v front b) (inl same))))
          ∙ sym (same_byte r k)

      go : (r : Row) × Memᴰ r x.rows × (r.reader ≡ e) × (r.address ≡ n) → run x m front n ≡ saw (event x e) n
      go w = subst (λ (a : ℕ). run x m front a ≡ saw (event x e) a) w.3
          (subst (λ (d : ℕ). run x m front w.0.address ≡ saw (event x d) w.0.address) w.2 (value w.0 w.1 w.2))
