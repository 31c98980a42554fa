-- The test `lacks` of specs/Parse.antt and what it stands for, `RowlessAt` of specs/Described.antt.
--     rowless_lacks, lacks_rowless  from a read byte without a row to the test; and back, for an event with one access
--     has_row                       where no event lacks a row, each byte that is read has one
--     lacking_there                 the event that `lowest_lacking` names is there
--     OneAccess                     an event with one access
--     lowest_rowless                where all are such, the event that `lowest_lacking` names is the lowest with a read byte without a row
-- Assumes nothing.
use mathlib.Core.Path.{◌≡◌, sym, ap, ◌∙◌, subst}
use mathlib.Core.Logic.{◌⊎◌, inl, inr}
use mathlib.Core.Bool.{Bool, true}
use mathlib.Core.List.Memᴰ
use mathlib.Core.List.{List, [], ◌∷◌, Memᴰ}
use mathlib.Core.Option.{none, some}
use Prim.Native.Nat.{ℕ, ◌+◌, ◌<◌, ◌≤◌}
use native.Mathlib.Omega.{arith}
use native.Mathlib.Nat.{zero-add}
use borrow.Author.Tests.{eqb-true, eq-eqb, le-leb, lt-ltb}
use lib.Dec.{T, eqb, ltb, leb}
use lib.ListN.{length, get_or}
use Rattle.basis.specs.Test.{◌and◌, non, any, from}
use Rattle.basis.proofs.BoolLaws.{decide, and_elim, and_intro, non_elim, non_intro, true_T, T_true, false_T, both_hold}
use Rattle.basis.proofs.ListLaws.{from_elim, from_mem, from_length, from_at}
use Rattle.basis.proofs.LoopLaws.{any_elim, any_intro}
use Rattle.basis.proofs.FindLaws.{find_none, find_first}
use Rattle.format.specs.declared.Row.{Row}
use Rattle.format.specs.Shape.{reads, covers}
use Rattle.format.specs.Event.{Access, Event, lookup, access_at, shape_at, reads_at}
use Rattle.format.specs.Execution.{Execution, event_no, event}
use Rattle.format.proofs.ExecutionLaws.{lookup_mem, event_inside}
use Rattle.format.proofs.EventLaws.{reads_at_nobody, reads_at_one}
use Rattle.format.proofs.LayoutLaws.{covered}
use Rattle.parse.specs.Parse.{is_row, lacks, lowest_lacking}
use Rattle.parse.specs.Described.{RowlessAt}

-- the event's one access reads and covers byte n: the event reads the byte
reads_byte : (d : Event) (a : Access) → d.accesses ≡ a ∷ [] → (n : ℕ) → T (reads a.shape) → a.shape.start ≤ n → n < a.shape.start + a.shape.width
    → T (reads_at d n)
unfolding covers
reads_byte d a o n t lo hi =
    let c : covers a.shape n ≡ true = both_hold (leb a.shape.start n) (ltb n (a.shape.start + a.shape.width)) (le-leb _ _ lo) (lt-ltb _ _ hi) in
    subst (λ (y : Event). T (reads_at y n)) (ap (λ (l : List Access). record { agent = d.agent; accesses = l }) (sym o))
    (true_T _ (reads_at_one d.agent a n ∙ both_hold (covers a.shape n) (reads a.shape) c (T_true _ t)))

module _ (x : Execution) (e : ℕ) where
  -- byte n of the event has no row
  abbrev bare : ℕ → Bool
  bare n = non (any (is_row e n) x.rows)

  -- an access of the event reads such a byte
  abbrev gap : Access → Bool
  gap a = reads a.shape and any bare (from a.shape.start a.shape.width)

  row_found : (n : ℕ) (r : Row) → Memᴰ r x.rows → r.reader ≡ e → r.address ≡ n → T (any (is_row e n) x.rows)
  unfolding is_row
  row_found n r m i j =
      any_intro (is_row e n) x.rows r m (and_intro (eqb r.reader e) (eqb r.address n) (true_T _ (eq-eqb _ _ i)) (true_T _ (eq-eqb _ _ j)))

  no_row_found : (r : RowlessAt x e) → T (any (is_row e r.byte) x.rows) → ⊥
  unfolding is_row
  no_row_found r t =
      let w = any_elim (is_row e r.byte) x.rows t in
      let k = and_elim (eqb w.0.reader e) (eqb w.0.address r.byte) w.2 in
      r.no_row w.0 w.1 (eqb-true _ _ (T_true _ k.0)) (eqb-true _ _ (T_true _ k.1))

  pub rowless_lacks : RowlessAt x e → T (lacks x.rows e (event x e))
  unfolding lacks reads_at shape_at access_at
  rowless_lacks r =
      let n = r.byte in
      let a = lookup (event x e).accesses n in
      let w = and_elim (covers a.shape n) (reads a.shape) r.reads in
      let c = covered a.shape n (T_true _ w.0) in
      any_intro gap (event x e).accesses a (lookup_mem (event x e).accesses n w.0)
      (and_intro (reads a.shape) _ w.1
      (any_intro bare (from a.shape.start a.shape.width) n (from_mem a.shape.width a.shape.start n c.0 c.1) (non_intro _ (no_row_found r))))

  pub lacks_rowless : (a : Access) → (event x e).accesses ≡ a ∷ [] → T (lacks x.rows e (event x e)) → RowlessAt x e
  unfolding lacks
  lacks_rowless a o t =
      let q = any_elim gap (event x e).accesses t in
      let same : q.0 ≡ a = Memᴰ.eq_of_singleton (subst (Memᴰ q.0) o q.1) in
      let r = and_elim (reads a.shape) (any bare (from a.shape.start a.shape.width)) (subst (λ (b : Access). T (gap b)) same q.2) in
      let u = any_elim bare (from a.shape.start a.shape.width) r.1 in
      let c = from_elim a.shape.width a.shape.start u.0 u.1 in
      record {
        byte = u.0;
        reads = reads_byte (event x e) a o u.0 r.0 c.0 c.1;
        no_row = λ y m i j. non_elim (any (is_row e u.0) x.rows) u.2 (row_found u.0 y m i j);
      }

-- what `lowest_lacking` looks for
abbrev lacking : Execution → ℕ → Bool
lacking x e = lacks x.rows e (event_no x.events e)

pub has_row : (x : Execution) → lowest_lacking x ≡ none → (e n : ℕ) → T (reads_at (event x e) n) → any (is_row e n) x.rows ≡ true
unfolding lowest_lacking event
has_row x l e n t = go (decide (any (is_row e n) x.rows))
  where
    go : T (any (is_row e n) x.rows) ⊎ (T (any (is_row e n) x.rows) → ⊥) → any (is_row e n) x.rows ≡ true
    go (inl y) = T_true _ y
    go (inr h) =
        let b = event_inside x (λ (d : Event). T (reads_at d n)) (false_T _ (reads_at_nobody n)) e t in
        absurd (find_none (lacking x) (from 0 (length x.events)) l e (from_mem (length x.events) 0 e (omega arith) (omega arith))
        (rowless_lacks x e (record { byte = n; reads = t; no_row = λ r m i j. h (row_found x e n r m i j) })))

from_zero : (n i : ℕ) → i < n → get_or (from 0 n) i 0 ≡ i
from_zero n i h = from_at 0 n i 0 h ∙ zero-add i

-- the event that lacks a row is there
pub lacking_there : (x : Execution) (e : ℕ) → lowest_lacking x ≡ some e → e < length x.events
unfolding lowest_lacking
lacking_there x e l =
    let w = find_first 0 (lacking x) (from 0 (length x.events)) e l in
    let b : w.number < length x.events = subst (λ (k : ℕ). w.number < k) (from_length 0 (length x.events)) w.there in
    let i : w.number ≡ e = sym (from_zero (length x.events) w.number b) ∙ w.is in
    omega arith

abbrev pub OneAccess : Event → Type 0
OneAccess d = (a : Access) × (d.accesses ≡ a ∷ [])

pub lowest_rowless : (x : Execution) (e : ℕ) → ((d : ℕ) → d < length x.events → OneAccess (event x d)) → lowest_lacking x ≡ some e
    → (e < length x.events) × RowlessAt x e × ((d : ℕ) → d < e → RowlessAt x d → ⊥)
unfolding lowest_lacking event
lowest_rowless x e o l =
    let w = find_first 0 (lacking x) (from 0 (length x.events)) e l in
    let b : w.number < length x.events = subst (λ (k : ℕ). w.number < k) (from_length 0 (length x.events)) w.there in
    let i : w.number ≡ e = sym (from_zero (length x.events) w.number b) ∙ w.is in
    let y = o e (omega arith) in (
      omega arith,
      lacks_rowless x e y.0 y.1 w.passes,
      λ d h r. w.none_before d (omega arith) (subst (λ (k : ℕ). T (lacking x k)) (sym (from_zero (length x.events) d (omega arith))) (rowless_lacks x d r)),
    )
