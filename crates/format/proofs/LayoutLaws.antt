-- The laws of specs/Layout.antt: the bytes that an event's value holds; what the front of a value says. Assumes nothing.
--     event_low, event_high                 five or six bytes stand before an event's data
--     saw_uncovered, saw_none, saw_some     of a byte that the event does not cover, does not read, reads
--     agent_front, shape_front, event_front, row_front, pair_front     of a value of which nothing is cut off that is looked at
--     data_whole                            what was seen and then what was written are the data
--     wrote_uncovered, wrote_none, wrote_write, wrote_both     not covered; not written; by a write; by a read-modify-write
use mathlib.Core.Path.{◌≡◌, refl, sym, ap, ◌∙◌}
use mathlib.Core.Bool.{Bool, true, false, cond}
use mathlib.Core.List.{List, [], ◌∷◌, ◌++◌, append-nil}
use Prim.Native.Nat.{ℕ, zero, suc, ◌+◌, ◌-◌, ◌<◌, ◌≤◌}
use native.Mathlib.Omega.{arith}
use borrow.Author.Tests.{ltb-true, leb-true, eqb-true, ne_eqb}
use lib.Dec.{eqb, ltb, leb}
use lib.ListN.{get_or, take, drop}
use lib.Seq.{get_or-take, get_or-drop, take-add, drop-drop}
use Rattle.basis.specs.Test.{◌or◌}
use Rattle.basis.proofs.BoolLaws.{and_elim, true_T, T_true}
use Rattle.basis.proofs.ListLaws.{part_front}
use Rattle.format.specs.declared.Shape.{Shape}
use Rattle.format.specs.Shape.{reads, covers, tear_of}
use Rattle.format.specs.Event.{Event, saw, wrote}
use Rattle.format.specs.Layout.{event_bytes, tear_by, agent_of, shape_of, data_bytes, seen_of, written_of, access_of, event_of, row_bytes, row_of, pair_bytes, pair_of}
use Rattle.format.proofs.EventLaws.{saw_hit, saw_miss, wrote_hit, wrote_miss}

module _ (edition : ℕ) where
  pub event_low : 5 ≤ event_bytes edition
  unfolding event_bytes
  event_low = go (eqb edition 2)
    where
      go : (b : Bool) → 5 ≤ cond b 6 5
      go true = omega arith
      go false = omega arith

  pub event_high : event_bytes edition ≤ 6
  unfolding event_bytes
  event_high = go (eqb edition 2)
    where
      go : (b : Bool) → cond b 6 5 ≤ 6
      go true = omega arith
      go false = omega arith

-- a covered byte lies behind the start and before the end
pub covered : (a : Shape) (n : ℕ) → covers a n ≡ true → (a.start ≤ n) × (n < a.start + a.width)
unfolding covers
covered a n h =
    let w = and_elim (leb a.start n) (ltb n (a.start + a.width)) (true_T _ h) in
    (leb-true _ _ (T_true _ w.0), ltb-true _ _ (T_true _ w.1))

module _ (edition : ℕ) (v : List ℕ) (n : ℕ) where
  pub saw_uncovered : covers (shape_of edition v) n ≡ false → saw (event_of edition v) n ≡ 0
  saw_uncovered p = saw_miss (agent_of v) (access_of edition v) n p

  pub saw_none : covers (shape_of edition v) n ≡ true → reads (shape_of edition v) ≡ false → saw (event_of edition v) n ≡ 0
  unfolding seen_of
  saw_none p q = saw_hit (agent_of v) (access_of edition v) n p ∙ rw q

  pub saw_some : covers (shape_of edition v) n ≡ true → reads (shape_of edition v) ≡ true → saw (event_of edition v) n ≡ get_or v (event_bytes edition + (n - (shape_of edition v).start)) 0
  unfolding seen_of
  saw_some p q =
      let w = covered (shape_of edition v) n p in
      let k : n - (shape_of edition v).start < (shape_of edition v).width = omega arith in
      saw_hit (agent_of v) (access_of edition v) n p ∙ rw (q, get_or-take, get_or-drop)

  pub wrote_uncovered : covers (shape_of edition v) n ≡ false → wrote (event_of edition v) n ≡ 0
  wrote_uncovered p = wrote_miss (agent_of v) (access_of edition v) n p

  pub wrote_none : covers (shape_of edition v) n ≡ true → eqb (shape_of edition v).kind 2 ≡ false → eqb (shape_of edition v).kind 3 ≡ false → wrote (event_of edition v) n ≡ 0
  unfolding written_of
  wrote_none p q r = wrote_hit (agent_of v) (access_of edition v) n p ∙ simp (q, r)

  pub wrote_write : covers (shape_of edition v) n ≡ true → eqb (shape_of edition v).kind 2 ≡ true → wrote (event_of edition v) n ≡ get_or v (event_bytes edition + (n - (shape_of edition v).start)) 0
  unfolding written_of
  wrote_write p q =
      let w = covered (shape_of edition v) n p in
      let k : n - (shape_of edition v).start < (shape_of edition v).width = omega arith in
      wrote_hit (agent_of v) (access_of edition v) n p ∙ rw (q, get_or-take, get_or-drop)

  pub wrote_both : covers (shape_of edition v) n ≡ true → eqb (shape_of edition v).kind 3 ≡ true
      → wrote (event_of edition v) n ≡ get_or v (event_bytes edition + (n - (shape_of edition v).start) + (shape_of edition v).width) 0
  unfolding written_of
  wrote_both p r =
      let k = eqb-true (shape_of edition v).kind 3 r in
      let q = ne_eqb (shape_of edition v).kind 2 (λ (d : (shape_of edition v).kind ≡ 2). omega arith) in
      let w = covered (shape_of edition v) n p in
      let m : n - (shape_of edition v).start < (shape_of edition v).width = omega arith in
      wrote_hit (agent_of v) (access_of edition v) n p ∙ rw (q, r, get_or-take, get_or-drop) (ap (λ (j : ℕ). get_or v j 0) (omega arith))

-- ---- the front of a value

event_path : {g g' : ℕ} {b b' : Shape} {s s' w w' : List ℕ} → g ≡ g' → b ≡ b' → s ≡ s' → w ≡ w'
    → ◌≡◌ {A = Event}
    (record { agent = g; accesses = record { shape = b; seen = s; written = w } ∷ [] })
    (record { agent = g'; accesses = record { shape = b'; seen = s'; written = w' } ∷ [] })
event_path p q r u = λ i. record { agent = p i; accesses = record { shape = q i; seen = r i; written = u i } ∷ [] }

module _ (edition : ℕ) (v : List ℕ) (n : ℕ) where
  pub agent_front : 1 ≤ n → agent_of (take n v) ≡ agent_of v
  agent_front h = get_or-take n v 0 0 (omega arith)

  -- the sixth byte counts where it stands before the data
  tear_front : (k m s w : ℕ) → event_bytes edition ≤ n → tear_by edition k m s w (get_or (take n v) 5 0) ≡ tear_by edition k m s w (get_or v 5 0)
  unfolding event_bytes tear_by
  tear_front k m s w h = go (eqb edition 2) h
    where
      go : (b : Bool) → cond b 6 5 ≤ n → cond b (get_or (take n v) 5 0) (tear_of k m s w) ≡ cond b (get_or v 5 0) (tear_of k m s w)
      go true l = get_or-take n v 5 0 (omega arith)
      go false l = refl

  pub shape_front : event_bytes edition ≤ n → shape_of edition (take n v) ≡ shape_of edition v
  shape_front h =
      let l = event_low edition in
      simp (get_or-take n v 1 0 (omega arith), get_or-take n v 2 0 (omega arith), get_or-take n v 3 0 (omega arith), get_or-take n v 4 0 (omega arith), tear_front (get_or v 1 0) (get_or v 2 0) (get_or v 3 0) (get_or v 4 0) h)

  pub row_front : row_bytes edition ≤ n → row_of edition (take n v) ≡ row_of edition v
  unfolding row_bytes
  row_front h = simp (get_or-take n v 0 0 (omega arith), get_or-take n v 1 0 (omega arith), get_or-take n v 2 0 (omega arith))

  pub pair_front : pair_bytes ≤ n → pair_of (take n v) ≡ pair_of v
  pair_front h = simp (get_or-take n v 0 0 (omega arith), get_or-take n v 1 0 (omega arith))

  abbrev a : Shape
  a = shape_of edition v

  -- the data is not shorter than an access's bytes
  data_once : a.width ≤ data_bytes a
  unfolding data_bytes
  data_once = go (eqb a.kind 3)
    where
      go : (b : Bool) → a.width ≤ cond b (a.width + a.width) a.width
      go true = omega arith
      go false = omega arith

  data_twice : eqb a.kind 3 ≡ true → data_bytes a ≡ a.width + a.width
  unfolding data_bytes
  data_twice e = rw e

  module _ (h : event_bytes edition + data_bytes a ≤ n) where
    same : shape_of edition (take n v) ≡ a
    same = shape_front (omega arith)

    seen_front : seen_of edition (take n v) ≡ seen_of edition v
    unfolding seen_of
    seen_front =
        ap (λ (b : Shape). cond (reads b) (take b.width (drop (event_bytes edition) (take n v))) []) same
        ∙ (let d = data_once in ap (λ (l : List ℕ). cond (reads a) l []) (part_front a.width (event_bytes edition) n v (omega arith)))

    written_front : written_of edition (take n v) ≡ written_of edition v
    unfolding written_of
    written_front =
        ap (λ (b : Shape). cond (eqb b.kind 2) (take b.width (drop (event_bytes edition) (take n v))) (cond (eqb b.kind 3) (take b.width (drop (event_bytes edition + b.width) (take n v))) [])) same
        ∙ (let d = data_once in
        ap (λ (l : List ℕ). cond (eqb a.kind 2) l (cond (eqb a.kind 3) (take a.width (drop (event_bytes edition + a.width) (take n v))) [])) (part_front a.width (event_bytes edition) n v (omega arith)))
        ∙ ap (λ (l : List ℕ). cond (eqb a.kind 2) (take a.width (drop (event_bytes edition) v)) l) (go (eqb a.kind 3) refl)
      where
        go : (b : Bool) → eqb a.kind 3 ≡ b
            → cond (eqb a.kind 3) (take a.width (drop (event_bytes edition + a.width) (take n v))) [] ≡ cond (eqb a.kind 3) (take a.width (drop (event_bytes edition + a.width) v)) []
        go true e = let d = data_twice e in ap (λ (l : List ℕ). cond (eqb a.kind 3) l []) (part_front a.width (event_bytes edition + a.width) n v (omega arith))
        go false e = rw e

    first : 1 ≤ n
    first = let l = event_low edition in omega arith

    pub event_front : event_of edition (take n v) ≡ event_of edition v
    event_front = event_path (agent_front first) same seen_front written_front

-- ---- the data

-- by the kind; a marker has none
by_kind : (k w : ℕ) (d : List ℕ) → 1 ≤ k → k ≤ 4 → (k ≡ 4 → w ≡ 0)
    → cond (eqb k 1 or eqb k 3) (take w d) [] ++ cond (eqb k 2) (take w d) (cond (eqb k 3) (take w (drop w d)) []) ≡ take (cond (eqb k 3) (w + w) w) d
unfolding ◌or◌
by_kind zero w d a b m = absurd (omega arith)
by_kind (suc zero) w d a b m = append-nil (take w d)
by_kind (suc (suc zero)) w d a b m = refl
by_kind (suc (suc (suc zero))) w d a b m = sym (take-add w w d)
by_kind (suc (suc (suc (suc zero)))) w d a b m = ap (λ (n : ℕ). take n d) (sym (m refl))
by_kind (suc (suc (suc (suc (suc k))))) w d a b m = absurd (omega arith)

pub data_whole : (edition : ℕ) (v : List ℕ) → 1 ≤ (shape_of edition v).kind → (shape_of edition v).kind ≤ 4 → ((shape_of edition v).kind ≡ 4 → (shape_of edition v).width ≡ 0)
    → seen_of edition v ++ written_of edition v ≡ take (data_bytes (shape_of edition v)) (drop (event_bytes edition) v)
unfolding seen_of written_of data_bytes reads
data_whole edition v a b m =
    rw (← (drop-drop (shape_of edition v).width (event_bytes edition) v)) (by_kind (shape_of edition v).kind (shape_of edition v).width (drop (event_bytes edition) v) a b m)
