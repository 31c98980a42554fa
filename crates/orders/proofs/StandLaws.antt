-- Where a walk stands, and what a step on and a step back do to it; the same for every walk. Assumes nothing.
--     Stand         the walk stands at s, after the events of the path; what was tried at each set on the way leads to marked sets
--     stand_start stand_on stand_back    the start, a step on, a step back
--     stand_left entered_at entered      the last two as the code has them
--     left          how many sets are not marked: it falls with a step on
use Prim.Native.Nat.{ℕ, suc, ◌+◌, ◌-◌, ◌/◌, ◌%◌, ◌^◌, ◌<◌, ◌≤◌, min}
use mathlib.Core.Path.{◌≡◌, refl, sym, ap, subst, ◌∙◌}
use mathlib.Core.Bool.{true}
use mathlib.Core.List.{List, [], ◌∷◌, ◌++◌}
use native.Mathlib.Omega.{arith}
use native.Mathlib.Numerals.{add-one}
use native.Mathlib.Decide.{dec_lt}
use native.Mathlib.Nat.{mod-eq_of_lt}
use borrow.Author.Count.{below_more}
use lib.Pow.{pow_pos, pow_mono}
use lib.ListN.{length, get_or, set, take, drop, length-append, length-set}
use lib.Seq.{length-take-le, take-suc, take-suc-set}
use Rattle.basis.proofs.BoolLaws.{false_of}
use Rattle.sets.specs.Mask.{slots, mem, Has, insert, remove, full, above}
use Rattle.sets.specs.Count.{count}
use Rattle.marks.specs.Table.{is_marked, marking, bytes_for}
use Rattle.sets.proofs.MaskLaws.{mem_full, insert_lt, insert_old, remove_insert, above_lt}
use Rattle.sets.proofs.CountLaws.{count_le, size_first}
use Rattle.marks.proofs.TableLaws.{length_marking, drop_marking, marking_new, marking_old, place_within, marks_marking}
use Rattle.orders.specs.Problem.{Problem}
use Rattle.orders.specs.Step.{Ready}
use Rattle.placing.specs.Placing.{is_seen, Entered}
use Rattle.orders.specs.Walk.{Tried, NextIs, Starting}
use Rattle.orders.proofs.TrailLaws.{placed, placed_snoc, Full, Trail, trail_snoc, trail_init, trail_last, trail_map, Readies, trail_keeps}
use Rattle.orders.proofs.WayLaws.{Way, way_lt, way_full, way_size, depth_path, way_grown, way_inits, way_path, way_deep, way_on}

-- all that can be placed at s, up to e, leads to marked sets
abbrev pub Spent : Problem → ℕ → List ℕ → ℕ → ℕ → Type 0
Spent P k table s e = Tried P k table s (e + 1)

pub record Stand (P : Problem) (k : ℕ) (table₀ table path : List ℕ) (s depth from : ℕ) : Type 0 where
  pub size : length table ≡ length table₀
  pub cells : slots ≤ length path
  pub rest : drop (bytes_for (P.events - k)) table ≡ drop (bytes_for (P.events - k)) table₀
  pub depth_le : depth ≤ slots
  pub at : s ≡ placed (full k) (take depth path)
  pub trail : Readies P (full k) (take depth path)
  pub spent : Trail (Spent P k table) (full k) (take depth path)
  pub tried : Tried P k table s from
  pub low : k ≤ from
  pub high : from ≤ P.events

-- how many sets are not marked
abbrev pub left : ℕ → List ℕ → ℕ
left n table = 2 ^ n - count (is_marked table) (2 ^ n)

-- an event that is in the set cannot be placed
full_tried : (P : Problem) (k : ℕ) (table : List ℕ) (s : ℕ) → Full k s → Tried P k table s k
full_tried P k table s f d l r = absurd (r.fresh (f d l))

module _ {P : Problem} {k : ℕ} {table₀ path₀ : List ℕ} (st : Starting P k table₀ path₀) where
  pub stand_start : Stand P k table₀ table₀ path₀ (full k) 0 k
  stand_start =
      record {
        size = refl;
        cells = st.cells;
        rest = refl;
        depth_le = omega arith;
        at = refl;
        trail = tt;
        spent = tt;
        tried = full_tried P k table₀ (full k) (mem_full k);
        low = omega arith;
        high = st.inits;
      }

  module _ {table path : List ℕ} {s depth from : ℕ} (g : Stand P k table₀ table path s depth from) where
    pub way : Way P k path s depth
    way = record { cells = g.cells; depth_le = g.depth_le; at = g.at; trail = g.trail }

    pub stand_lt : s < 2 ^ P.events
    stand_lt = way_lt st.inits st.events way

    pub stand_full : Full k s
    stand_full = way_full st.inits st.events way

    pub stand_size : count (mem s) P.events ≡ k + depth
    stand_size = way_size st.inits st.events way

    stand_path : depth ≤ length path
    stand_path = depth_path st.inits st.events way

    -- ---- on: an event that can be placed

    module _ {e : ℕ} (r : Ready P (Has s) e) where
      pub grown : insert s e < 2 ^ P.events
      grown = way_grown st.inits st.events way r

      pub grown_full : Full k (insert s e)
      grown_full = way_inits st.inits st.events way r

      pub place_lt : above (insert s e) k < 2 ^ (P.events - k)
      place_lt = above_lt k P.events (insert s e) st.inits grown

      spot : above (insert s e) k / 8 < bytes_for (P.events - k)
      spot = place_within (P.events - k) (above (insert s e) k) place_lt

      pub spot_table : above (insert s e) k / 8 < length table
      spot_table = let a = spot in let b = g.size in let c = st.room in omega arith

      pub next_path : take depth path ++ e ∷ [] ≡ take (depth + 1) (set path depth e)
      next_path = way_path st.inits st.events way r

    -- the lowest event that leads to a set not marked
    module _ {e : ℕ} (h : e < P.events) (n : NextIs P k table s e) where
      abbrev marks : List ℕ
      marks = marking table (above (insert s e) k)

      keeps : (t d : ℕ) → is_seen k table t d ≡ true → is_seen k marks t d ≡ true
      keeps t d q = marking_old table (above (insert s e) k) (spot_table (n.ready h)) (above (insert t d) k) q

      now_spent : Spent P k marks s e
      now_spent = below_more _ e (λ d l r. keeps s d (n.tried d l r)) (λ r. marking_new table (above (insert s e) k) (spot_table (n.ready h)))

      pub stand_on : Stand P k table₀ (marking table (above (insert s e) k)) (set path depth e) (insert s e) (depth + 1) k
      stand_on =
          let r = n.ready h in
          record {
            size = length_marking table (above (insert s e) k) ∙ g.size;
            cells = simp length-set g.cells;
            rest = drop_marking (bytes_for (P.events - k)) table (above (insert s e) k) (spot r) ∙ g.rest;
            depth_le = (way_on st.inits st.events way r).depth_le;
            at = (way_on st.inits st.events way r).at;
            trail = (way_on st.inits st.events way r).trail;
            spent = subst (Trail (Spent P k marks) (full k)) (next_path r)
                (trail_snoc (Spent P k marks) (take depth path) (full k) e
                (trail_map (Spent P k table) (Spent P k marks) (λ t d q x l y. keeps t x (q x l y)) (take depth path) (full k) g.spent)
                (subst (λ (x : ℕ). Spent P k marks x e) g.at now_spent));
            tried = full_tried P k marks (insert s e) (grown_full r);
            low = omega arith;
            high = st.inits;
          }

      -- what a step on asks
      pub may_enter : (k < slots) × (e < slots) × (depth < length path)
      may_enter = let c = g.cells in let d = way_deep st.inits st.events way (n.ready h) in let q = st.events in (omega arith, omega arith, omega arith)

      -- one set less that is not marked
      pub left_falls : left (P.events - k) (marking table (above (insert s e) k)) < left (P.events - k) table
      left_falls =
          let r = n.ready h in
          let b : bytes_for (P.events - k) ≤ length table = let a = st.room in let c = g.size in omega arith in
          let a = marks_marking (P.events - k) table (above (insert s e) k) b (place_lt r) (n.unseen h) in
          let c = count_le (is_marked (marking table (above (insert s e) k))) (2 ^ (P.events - k)) in
          omega arith

    -- ---- back

    module _ (deep : 0 < depth) where
      pub last_path : take depth path ≡ take (depth - 1) path ++ get_or path (depth - 1) 0 ∷ []
      last_path =
          let a : suc (depth - 1) ≡ depth = omega arith in
          let l : depth - 1 < length path = let h = stand_path in omega arith in
          ap (λ (n : ℕ). take n path) (sym a) ∙ take-suc path (depth - 1) 0 l

      less : Readies P (full k) (take (depth - 1) path ++ get_or path (depth - 1) 0 ∷ [])
      less = subst (Readies P (full k)) last_path g.trail

      last_ready : Ready P (Has (placed (full k) (take (depth - 1) path))) (get_or path (depth - 1) 0)
      last_ready = trail_last _ (take (depth - 1) path) (full k) (get_or path (depth - 1) 0) less

      pub last_at : s ≡ insert (placed (full k) (take (depth - 1) path)) (get_or path (depth - 1) 0)
      last_at = g.at ∙ ap (placed (full k)) last_path ∙ placed_snoc (take (depth - 1) path) (full k) (get_or path (depth - 1) 0)

      pub last_event : get_or path (depth - 1) 0 < P.events
      last_event = last_ready.event

      last_high : k ≤ get_or path (depth - 1) 0
      last_high = go (dec_lt (get_or path (depth - 1) 0) k)
        where
          go : Dec (get_or path (depth - 1) 0 < k) → k ≤ get_or path (depth - 1) 0
          go (yes l) = absurd (last_ready.fresh (trail_keeps P (take (depth - 1) path) (full k) _ (mem_full k _ l)))
          go (no f) = omega arith

      -- what a step back asks
      pub may_leave : depth - 1 < length path
      may_leave = let h = stand_path in omega arith

      back_at : remove s (get_or path (depth - 1) 0) ≡ placed (full k) (take (depth - 1) path)
      back_at =
          ap (λ (x : ℕ). remove x (get_or path (depth - 1) 0)) last_at
          ∙ remove_insert (placed (full k) (take (depth - 1) path)) (get_or path (depth - 1) 0) (false_of (mem (placed (full k) (take (depth - 1) path)) (get_or path (depth - 1) 0)) last_ready.fresh)

      pub stand_back : Stand P k table₀ table path (remove s (get_or path (depth - 1) 0)) (depth - 1) (get_or path (depth - 1) 0 + 1)
      stand_back =
          let past = subst (Trail (Spent P k table) (full k)) last_path g.spent in
          record {
            size = g.size;
            cells = g.cells;
            rest = g.rest;
            depth_le = let j = g.depth_le in omega arith;
            at = back_at;
            trail = trail_init _ (take (depth - 1) path) (full k) (get_or path (depth - 1) 0) less;
            spent = trail_init _ (take (depth - 1) path) (full k) (get_or path (depth - 1) 0) past;
            tried = subst (λ (x : ℕ). Spent P k table x (get_or path (depth - 1) 0)) (sym back_at) (trail_last _ (take (depth - 1) path) (full k) (get_or path (depth - 1) 0) past);
            low = let h = last_high in omega arith;
            high = let h = last_event in omega arith;
          }

      -- the same with what the code has in its hands: the event taken back, and the set without it
      pub stand_left : (x y : ℕ) → x ≡ get_or path (depth - 1) 0 → y ≡ remove s (x % slots) → Stand P k table₀ table path y (depth - 1) (x + 1)
      stand_left x y e r =
          let l : x % slots ≡ x = mod-eq_of_lt (let a = last_event in let b = st.events in omega arith) in
          let q : y ≡ remove s (get_or path (depth - 1) 0) = r ∙ ap (remove s) (l ∙ e) in
          subst (λ (z : ℕ). Stand P k table₀ table path z (depth - 1) (x + 1)) (sym q)
          (subst (λ (z : ℕ). Stand P k table₀ table path (remove s (get_or path (depth - 1) 0)) (depth - 1) (z + 1)) (sym e) stand_back)

-- what a step on gave, in the terms of the laws
pub entered_at : {k s e depth : ℕ} {table path : List ℕ} {r : ℕ} {t p : List ℕ} → (k < slots) × (e < slots) × (depth < length path)
    → Entered (k % slots) s (e % slots) depth table path r t p → Entered k s e depth table path r t p
entered_at {k} {s} {e} {depth} {table} {path} {r} {t} {p} l n =
    subst (λ (i : ℕ). Entered i s e depth table path r t p) (mod-eq_of_lt l.0)
    (subst (λ (i : ℕ). Entered (k % slots) s i depth table path r t p) (mod-eq_of_lt l.1) n)

pub entered : {k s e depth : ℕ} {table path : List ℕ} {r : ℕ} {t p : List ℕ} (C : ℕ → List ℕ → List ℕ → Type 0) → Entered k s e depth table path r t p
    → C (insert s e) (marking table (above (insert s e) k)) (set path depth e) → C r t p
entered C n h = rw (n.grown, n.marked, n.stored) h

pub full_slots : (k : ℕ) → k ≤ slots → full (min k slots) ≡ full k
full_slots k l = let e : min k slots ≡ k = omega arith in ap full e
