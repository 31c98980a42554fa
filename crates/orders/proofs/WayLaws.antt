-- The way of a walk as the code holds it: the path, how much of it counts, and the set. The same for a walk with marks and for one without. Assumes nothing.
--     Way                        s is the set after the first `depth` events of the path, each of which could be placed
--     way_start                  the start, from the inits
--     way_lt way_full way_size   how large the set is, and that it has the inits
--     way_grown way_inits way_deep way_path way_more way_more_at     an event more
--     way_on                     a step on
--     way_end                    where all are placed and each event was the best, the path has the first way
use Prim.Native.Nat.{ℕ, ◌+◌, ◌-◌, ◌^◌, ◌<◌, ◌≤◌}
use mathlib.Core.Path.{◌≡◌, refl, sym, ap, subst, ◌∙◌}
use mathlib.Core.List.{List, [], ◌∷◌, ◌++◌}
use native.Mathlib.Omega.{arith}
use native.Mathlib.Numerals.{add-one}
use lib.Pow.{pow_pos, pow_mono}
use lib.ListN.{length, set, take, length-append, length-set}
use lib.Seq.{length-take-le, take-suc-set}
use Rattle.sets.specs.Mask.{slots, mem, Has, insert, full}
use Rattle.sets.specs.Count.{count}
use Rattle.sets.proofs.MaskLaws.{mem_full, insert_lt, insert_old}
use Rattle.sets.proofs.CountLaws.{count_le, size_first, size_full}
use Rattle.orders.specs.Problem.{Problem}
use Rattle.orders.specs.First.{FirstOf}
use Rattle.orders.specs.Step.{Below, Ready, Runs}
use Rattle.orders.proofs.StepLaws.{same_first}
use Rattle.orders.proofs.TablesLaws.{below_full}
use Rattle.orders.proofs.TrailLaws.{placed, placed_snoc, Full, trail_snoc, Readies, trail_lt, trail_size, trail_keeps, Bests, trail_first}

pub record Way (P : Problem) (k : ℕ) (path : List ℕ) (s depth : ℕ) : Type 0 where
  pub cells : slots ≤ length path
  pub depth_le : depth ≤ slots
  pub at : s ≡ placed (full k) (take depth path)
  pub trail : Readies P (full k) (take depth path)

inits_lt : (k m : ℕ) → k ≤ m → full k < 2 ^ m
inits_lt k m inits = let p = pow_pos k in let q : 2 ^ k ≤ 2 ^ m = pow_mono inits in omega arith

module _ {P : Problem} {k : ℕ} (inits : k ≤ P.events) (events : P.events ≤ slots) where
  pub way_start : {path : List ℕ} → slots ≤ length path → Way P k path (full k) 0
  way_start cells = record { cells = cells; depth_le = omega arith; at = refl; trail = tt }

  module _ {path : List ℕ} {s depth : ℕ} (g : Way P k path s depth) where
    pub way_lt : s < 2 ^ P.events
    way_lt = subst (λ (x : ℕ). x < 2 ^ P.events) (sym g.at) (trail_lt P (take depth path) (full k) g.trail (inits_lt k P.events inits))

    pub way_full : Full k s
    way_full d h = subst (λ (x : ℕ). Has x d) (sym g.at) (trail_keeps P (take depth path) (full k) d (mem_full k d h))

    pub depth_path : depth ≤ length path
    depth_path = let h = g.cells in let j = g.depth_le in omega arith

    pub way_size : count (mem s) P.events ≡ k + depth
    way_size =
        let a = ap (λ (x : ℕ). count (mem x) P.events) g.at ∙ trail_size P (take depth path) (full k) g.trail in
        let b = size_first k P.events inits in
        let c = length-take-le depth path depth_path in
        omega arith

    pub way_end : Bests P (full k) (take depth path) → s ≡ full P.events → FirstOf (Runs P (Below k)) (take (P.events - k) path)
    way_end b h =
        let d : depth ≡ P.events - k = let a = way_size in let b = ap (λ (x : ℕ). count (mem x) P.events) h ∙ size_full P.events in omega arith in
        subst (λ (n : ℕ). FirstOf (Runs P (Below k)) (take n path)) d
        (same_first P (take depth path) (Has (full k)) (Below k) (below_full k)
        (trail_first P (take depth path) (full k) b (λ e q. subst (λ (x : ℕ). Has x e) (sym h ∙ g.at) (mem_full P.events e q))))

    -- ---- on: an event that can be placed

    module _ {e : ℕ} (r : Ready P (Has s) e) where
      pub way_grown : insert s e < 2 ^ P.events
      way_grown = insert_lt P.events s e way_lt r.event

      pub way_inits : Full k (insert s e)
      way_inits d h = insert_old s e d (way_full d h)

      pub way_more : Readies P (full k) (take depth path ++ e ∷ [])
      way_more = trail_snoc _ (take depth path) (full k) e g.trail (subst (λ (x : ℕ). Ready P (Has x) e) g.at r)

      pub way_more_at : insert s e ≡ placed (full k) (take depth path ++ e ∷ [])
      way_more_at = ap (λ (x : ℕ). insert x e) g.at ∙ sym (placed_snoc (take depth path) (full k) e)

      pub way_deep : k + depth < P.events
      way_deep =
          let a = ap (λ (x : ℕ). count (mem x) P.events) way_more_at ∙ trail_size P (take depth path ++ e ∷ []) (full k) way_more in
          let b = size_first k P.events inits in
          let c = length-take-le depth path depth_path in
          let d = length-append (take depth path) (e ∷ []) in
          let f = count_le (mem (insert s e)) P.events in
          omega arith

      pub way_path : take depth path ++ e ∷ [] ≡ take (depth + 1) (set path depth e)
      way_path =
          let l : depth < length path = let h = g.cells in let j = way_deep in omega arith in
          sym (take-suc-set path depth e l) ∙ ap (λ (n : ℕ). take n (set path depth e)) (sym (add-one depth))

      pub way_on : Way P k (set path depth e) (insert s e) (depth + 1)
      way_on =
          record {
            cells = simp length-set g.cells;
            depth_le = let j = way_deep in omega arith;
            at = way_more_at ∙ ap (placed (full k)) way_path;
            trail = subst (Readies P (full k)) way_path way_more;
          }
