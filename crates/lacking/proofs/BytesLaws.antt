-- Rows rise and each is of a read byte, so that as many rows as read bytes are one for each. Assumes nothing.
--     read_more, read_some     one event more; where bytes are read, some event reads
--     none_lacking             as many rows as read bytes: no event lacks one
use mathlib.Core.Path.{◌≡◌, refl, sym, ap, ◌∙◌, subst}
use mathlib.Core.Bool.{Bool, true, false, cond}
use mathlib.Core.Logic.{◌⊎◌, inl, inr, ⊎_elim}
use mathlib.Core.List.Memᴰ
use mathlib.Core.List.{List, [], ◌∷◌, ◌++◌, Memᴰ}
use mathlib.Core.Option.{Option, none, some}
use Prim.Native.Nat.{ℕ, zero, suc, ◌+◌, ◌-◌, ◌<◌, ◌≤◌}
use native.Mathlib.Omega.{arith}
use native.Mathlib.Decide.{dec_lt}
use native.Mathlib.Nat.{eq-or-lt_of_le}
use borrow.Author.Tests.{ltb-true, leb-true}
use lib.Dec.{T, leb, ltb, eqb→eq, ltb→lt}
use lib.ListN.{length, get_or, take}
use lib.Seq.{take-suc, take-length}
use Rattle.basis.specs.Test.{◌or◌, any}
use Rattle.basis.proofs.BoolLaws.{not_both_ways, and_elim, or_cases, T_true}
use Rattle.basis.proofs.ListLaws.{get_or_mem}
use Rattle.format.specs.declared.Shape.{Shape}
use Rattle.format.specs.Shape.{covers, reads}
use Rattle.format.specs.Event.{Access, Event, nothing, nobody, shape_at, reads_at, reads_some}
use Rattle.format.specs.Execution.{Execution, event_no, event, row_below, blank_row}
use Rattle.format.proofs.ExecutionLaws.{shape_mem, reads_covers, reads_reads, covering_inside}
use Rattle.parse.specs.Parse.{State, lowest_lacking}
use Rattle.parse.specs.Promise.{row}
use Rattle.parse.proofs.LackLaws.{lowest_rowless}
use Rattle.parse.proofs.PromiseLaws.{Kept}
use Rattle.lacking.specs.Bytes.{read_width, read_bytes}

-- ---- over numbers: N rows, row j of byte A j of event R j; M events, event e reads W e bytes from S e on, those before it P e

module _ (N M : ℕ) (R A S W P : ℕ → ℕ) (next : (e : ℕ) → e < M → P (suc e) ≡ P e + W e)
    (up : (j : ℕ) → suc j < N → (R j < R (suc j)) ⊎ ((R j ≡ R (suc j)) × (A j < A (suc j))))
    (in_range : (j : ℕ) → j < N → (R j < M) × ((S (R j) ≤ A j) × (A j < S (R j) + W (R j)))) (full : N ≡ P M) where
  before : (d e : ℕ) → d < e → e ≤ M → P d + W d ≤ P e
  before d zero h l = absurd (omega arith)
  before d (suc e) h l = go (before d e) (eq-or-lt_of_le (omega arith))
    where
      go : (d < e → e ≤ M → P d + W d ≤ P e) → (d ≡ e) ⊎ (d < e) → P d + W d ≤ P (suc e)
      go f (inl q) = let n = next e (omega arith) in let u : P d ≡ P e = ap P q in let w : W d ≡ W e = ap W q in omega arith
      go f (inr q) = let n = next e (omega arith) in let u = f q (omega arith) in omega arith

  -- a row's byte among all that are read
  abbrev key : ℕ → ℕ
  key j = P (R j) + (A j - S (R j))

  inside : (j : ℕ) → j < N → key j < P (R j) + W (R j)
  inside j h = let r = in_range j h in omega (arith, r.1.0, r.1.1)

  rises : (j : ℕ) → suc j < N → key j < key (suc j)
  rises j h = go (up j h)
    where
      go : (R j < R (suc j)) ⊎ ((R j ≡ R (suc j)) × (A j < A (suc j))) → key j < key (suc j)
      go (inl u) =
          let r = in_range (suc j) h in
          let b = before (R j) (R (suc j)) u (omega (arith, r.0)) in
          let i = inside j (omega arith) in
          omega arith
      go (inr u) =
          let p : P (R j) ≡ P (R (suc j)) = ap P u.0 in
          let s : S (R j) ≡ S (R (suc j)) = ap S u.0 in
          let r = in_range j (omega arith) in
          omega (arith, u.1, r.1.0)

  low : (j : ℕ) → j < N → j ≤ key j
  low zero h = omega arith
  low (suc j) h = let l = low j (omega arith) in let r = rises j h in omega arith

  high : (d j : ℕ) → j + suc d ≡ N → key j + suc d ≤ N
  high zero j e =
      let r = in_range j (omega arith) in
      let b = before (R j) M r.0 (omega arith) in
      let i = inside j (omega arith) in
      omega arith
  high (suc d) j e = let l = high d (suc j) (omega arith) in let r = rises j (omega arith) in omega arith

  exact : (j : ℕ) → j < N → key j ≡ j
  exact j h = let l = low j h in let u = high (N - suc j) j (omega arith) in omega arith

  found : (e n : ℕ) → e < M → S e ≤ n → n < S e + W e → (j : ℕ) × (j < N) × (R j ≡ e) × (A j ≡ n)
  found e n i lo hi = (k, there, same, byte)
    where
      k : ℕ
      k = P e + (n - S e)

      there : k < N
      there = let b = before e M i (omega arith) in omega arith

      same : R k ≡ e
      same = go (dec_lt (R k) e) (dec_lt e (R k))
        where
          go : Dec (R k < e) → Dec (e < R k) → R k ≡ e
          go (yes u) q = absurd (let b = before (R k) e u (omega arith) in let x = exact k there in let y = inside k there in omega arith)
          go (no u) (yes v) = absurd (let r = in_range k there in let b = before e (R k) v (omega (arith, r.0)) in let x = exact k there in omega arith)
          go (no u) (no v) = omega arith

      byte : A k ≡ n
      byte =
          let x = exact k there in
          let p : P (R k) ≡ P e = ap P same in
          let s : S (R k) ≡ S e = ap S same in
          let r = in_range k there in
          omega (arith, r.1.0)

-- ---- over lists

pub read_more : (l : List Event) (d : Event) → read_bytes (l ++ (d ∷ [])) ≡ read_bytes l + read_width d.accesses
unfolding read_bytes
read_more [] d = omega arith
read_more (c ∷ l) d = let e = read_more l d in omega arith

-- where an event's bytes are counted, it reads
width_some : (l : List Access) → 0 < read_width l → any (λ (a : Access). reads a.shape) l ≡ true
unfolding read_width any ◌or◌
width_some [] h = absurd (omega arith)
width_some (a ∷ l) h = go (width_some l) (reads a.shape) refl
  where
    go : (0 < read_width l → any (λ (b : Access). reads b.shape) l ≡ true) → (b : Bool) → reads a.shape ≡ b → (reads a.shape or any (λ (b : Access). reads b.shape) l) ≡ true
    go f true e = rw e refl
    go f false e = let k = rw e at h in let g : 0 < read_width l = omega arith in rw e (f g)

pub read_some : (l : List Event) → 0 < read_bytes l → any reads_some l ≡ true
unfolding read_bytes reads_some any ◌or◌
read_some [] h = absurd (omega arith)
read_some (d ∷ l) h = go (read_some l) (reads_some d) refl
  where
    go : (0 < read_bytes l → any reads_some l ≡ true) → (b : Bool) → reads_some d ≡ b → (reads_some d or any reads_some l) ≡ true
    go f true e = rw e refl
    go f false e = rw e (f (left (dec_lt 0 (read_width d.accesses))))
      where
        left : Dec (0 < read_width d.accesses) → 0 < read_bytes l
        left (yes u) = absurd (not_both_ways (width_some d.accesses u) e)
        left (no u) = omega arith

range_of : (a : Shape) (k : ℕ) → T (covers a k) → (a.start ≤ k) × (k < a.start + a.width)
unfolding covers
range_of a k h =
    let p = and_elim (leb a.start k) (ltb k (a.start + a.width)) h in
    (leb-true a.start k (T_true _ p.0), ltb-true k (a.start + a.width) (T_true _ p.1))

module _ (st : State) (kept : Kept st) where
  abbrev x : Execution
  x = st.got

  abbrev start : ℕ → ℕ
  start e = (get_or (event x e).accesses 0 nothing).shape.start

  abbrev width : ℕ → ℕ
  width e = read_width (event x e).accesses

  -- an event that reads byte k has it in its range, and counts it
  reading : (e k : ℕ) → T (reads_at (event x e) k) → (e < length x.events) × ((start e ≤ k) × (k < start e + width e))
  unfolding event event_no read_width
  reading e k h =
      let c = reads_covers (event x e) k h in
      let r = reads_reads (event x e) k h in
      let i = covering_inside x e k c in
      let w = shape_mem (event x e) k c in
      let we = kept.events.well e i in
      let y : w.0 ≡ we.access = Memᴰ.eq_of_singleton (subst (λ (l : List Access). Memᴰ w.0 l) we.one_access w.1) in
      let z : shape_at (event x e) k ≡ we.access.shape = sym w.2 ∙ ap (λ (b : Access). b.shape) y in
      let b : start e ≡ we.access.shape.start = ap (λ (l : List Access). (get_or l 0 nothing).shape.start) we.one_access in
      let g = range_of we.access.shape k (subst (λ (s : Shape). T (covers s k)) z c) in
      let rd : reads we.access.shape ≡ true = T_true _ (subst (λ (s : Shape). T (reads s)) z r) in
      let n : width e ≡ cond (reads we.access.shape) we.access.shape.width 0 + 0 = ap read_width we.one_access in
      let m : cond (reads we.access.shape) we.access.shape.width 0 ≡ we.access.shape.width = ap (λ (q : Bool). cond q we.access.shape.width 0) rd in
      (i, (omega (arith, b, g.0), omega (arith, b, g.1, n, m)))

  rise : (j : ℕ) → suc j < length x.rows → ((row x j).reader < (row x (suc j)).reader) ⊎ (((row x j).reader ≡ (row x (suc j)).reader) × ((row x j).address < (row x (suc j)).address))
  unfolding row_below
  rise j h =
      ⊎_elim (λ p. inl (ltb→lt _ _ p)) (λ p. let q = and_elim _ _ p in inr (eqb→eq _ _ q.0, ltb→lt _ _ q.1))
      (or_cases _ _ (kept.rows.rise j (suc j) (omega arith) h))

  sum : (e : ℕ) → e < length x.events → read_bytes (take (suc e) x.events) ≡ read_bytes (take e x.events) + width e
  unfolding event event_no
  sum e h = ap read_bytes (take-suc x.events e nobody h) ∙ read_more (take e x.events) (get_or x.events e nobody)

  pub none_lacking : length x.rows ≡ read_bytes x.events → lowest_lacking x ≡ none
  unfolding event event_no
  none_lacking n = go (lowest_lacking x) refl
    where
      go : (o : Option ℕ) → lowest_lacking x ≡ o → lowest_lacking x ≡ none
      go none e = e
      go (some e) q =
          let w = lowest_rowless x e (λ d h. ((kept.events.well d h).access, (kept.events.well d h).one_access)) q in
          let r = reading e w.1.byte w.1.reads in
          let f =
          found (length x.rows) (length x.events) (λ j. (row x j).reader) (λ j. (row x j).address) start width (λ d. read_bytes (take d x.events)) sum rise
          (λ j h. reading (row x j).reader (row x j).address (kept.rows.joins j h).reads) (n ∙ sym (ap read_bytes (take-length x.events))) e w.1.byte r.0 r.1.0 r.1.1 in
          absurd (w.1.no_row (row x f.0) (get_or_mem blank_row x.rows f.0 f.1) f.2 f.3)
