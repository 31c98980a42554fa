-- The laws of specs/Bar.antt. Assumes nothing.
--     bar_elim, bar_intro      a bar is a row of R and W that bars V, and back
--     RowBars, row_bars_lem, bars_row      what a row and V that it bars satisfy, and back
use mathlib.Core.Path.{◌≡◌, subst}
use mathlib.Core.Bool.{Bool}
use mathlib.Core.List.{Memᴰ}
use Prim.Native.Nat.{ℕ}
use lib.Dec.{T, eqb, eqb→eq, eqb_refl}
use Rattle.basis.specs.Test.{◌and◌, ◌or◌}
use Rattle.basis.proofs.BoolLaws.{and_elim, and_intro, non_elim, non_intro}
use Rattle.basis.proofs.LoopLaws.{any_elim, any_intro}
use Rattle.format.specs.declared.Row.{Row}
use Rattle.format.specs.Shape.{sc}
use Rattle.format.specs.Event.{writes_at}
use Rattle.format.specs.Execution.{Execution, event}
use Rattle.model.specs.Events.{at_row}
use Rattle.model.specs.Bar.{bar_a, bar_b, bar_c, row_bars, bar}

pub record RowBars (x : Execution) (hb : ℕ → ℕ → Bool) (r : Row) (v : ℕ) : Type 0 where
  pub not_reader : v ≡ r.reader → ⊥
  pub not_writer : v ≡ r.writer → ⊥
  pub writes : T (writes_at (event x v) r.address)
  pub sc : T (sc (at_row x r v))
  pub reason : T (bar_a x r v or bar_b x hb r v or bar_c x hb r v)

module _ (x : Execution) (hb : ℕ → ℕ → Bool) where
  pub row_bars_lem : (r : Row) (v : ℕ) → T (row_bars x hb r v) → RowBars x hb r v
  unfolding row_bars
  row_bars_lem r v t =
      let a = and_elim _ _ t in
      let b = and_elim _ _ a.1 in
      let c = and_elim _ _ b.1 in
      let d = and_elim _ _ c.1 in
      record {
        not_reader = λ e. non_elim _ a.0 (subst (λ (i : ℕ). T (eqb v i)) e (eqb_refl v));
        not_writer = λ e. non_elim _ b.0 (subst (λ (i : ℕ). T (eqb v i)) e (eqb_refl v));
        writes = c.0;
        sc = d.0;
        reason = d.1;
      }

  pub bars_row : (r : Row) (v : ℕ) → RowBars x hb r v → T (row_bars x hb r v)
  unfolding row_bars
  bars_row r v b =
      and_intro _ _ (non_intro _ (λ t. b.not_reader (eqb→eq _ _ t))) (and_intro _ _ (non_intro _ (λ t. b.not_writer (eqb→eq _ _ t)))
      (and_intro _ _ b.writes (and_intro _ _ b.sc b.reason)))

  pub bar_elim : (r w v : ℕ) → T (bar x hb r w v) → (p : Row) × Memᴰ p x.rows × (p.reader ≡ r) × (p.writer ≡ w) × T (row_bars x hb p v)
  unfolding bar
  bar_elim r w v t =
      let k = any_elim (λ (p : Row). eqb p.reader r and eqb p.writer w and row_bars x hb p v) x.rows t in
      let a = and_elim _ _ k.2 in
      let b = and_elim _ _ a.1 in
      (k.0, k.1, eqb→eq _ _ a.0, eqb→eq _ _ b.0, b.1)

  pub bar_intro : (p : Row) (v : ℕ) → Memᴰ p x.rows → T (row_bars x hb p v) → T (bar x hb p.reader p.writer v)
  unfolding bar
  bar_intro p v m t =
      any_intro (λ (q : Row). eqb q.reader p.reader and eqb q.writer p.writer and row_bars x hb q v) x.rows p m
      (and_intro _ _ (eqb_refl p.reader) (and_intro _ _ (eqb_refl p.writer) t))
