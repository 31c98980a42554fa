-- What the search for the first order knows where it stands. Assumes nothing.
--     Seek          each event on the way was the best, and each marked set is dead or on the way
--     seek_start seek_on seek_back    the start, a step on, a step back
--     seek_none seek_end              what is then known, where no way is left and where all events are placed
use Prim.Native.Nat.{ℕ, ◌+◌, ◌-◌, ◌^◌, ◌<◌, ◌≤◌}
use mathlib.Core.Path.{◌≡◌, sym, ap, subst, ◌∙◌}
use mathlib.Core.Bool.{true}
use mathlib.Core.Logic.{◌⊎◌, inl, inr, ⊎_elim}
use mathlib.Core.List.{List, []}
use native.Mathlib.Omega.{arith}
use lib.ListN.{get_or, set, take}
use Rattle.basis.proofs.BoolLaws.{not_both_ways, false_of}
use Rattle.sets.specs.Mask.{mem, Has, insert, full, above}
use Rattle.sets.specs.Count.{count}
use Rattle.marks.specs.Table.{is_marked, marking}
use Rattle.sets.proofs.MaskLaws.{insert_gt, full_of, mem_full, above_lt, above_inj}
use Rattle.sets.proofs.CountLaws.{size_full}
use Rattle.marks.proofs.TableLaws.{marking_cases}
use Rattle.orders.specs.Problem.{Problem}
use Rattle.orders.specs.First.{FirstOf}
use Rattle.orders.specs.Step.{With, Below, Ready, Runs, Dead}
use Rattle.placing.specs.Placing.{is_seen}
use Rattle.orders.specs.Walk.{NextIs, Starting}
use Rattle.orders.proofs.StepLaws.{Best, same_first, same_dead, dead_here}
use Rattle.orders.proofs.TablesLaws.{with_insert, below_full}
use Rattle.orders.proofs.TrailLaws.{placed, On, on_le, on_more, on_end, on_less, Full, trail_snoc, trail_init, Bests, trail_first}
use Rattle.orders.proofs.WayLaws.{way_end}
use Rattle.orders.proofs.StandLaws.{Stand, way, stand_lt, grown, grown_full, spot_table, next_path, last_path, last_at}

pub record Seek (P : Problem) (k : ℕ) (p table : List ℕ) : Type 0 where
  pub bests : Bests P (full k) p
  pub known : (t : ℕ) → t < 2 ^ P.events → Full k t → is_marked table (above t k) ≡ true → Dead P (Has t) ⊎ On t (full k) p

module _ {P : Problem} {k : ℕ} {table₀ path₀ : List ℕ} (st : Starting P k table₀ path₀) where
  pub seek_start : Seek P k [] table₀
  seek_start = record { bests = tt; known = λ t a b c. absurd (not_both_ways c (st.blank (above t k) (above_lt k P.events t st.inits a))) }

  module _ {table path : List ℕ} {s depth from : ℕ} (g : Stand P k table₀ table path s depth from) (w : Seek P k (take depth path) table) where
    -- a set after this one that is marked is dead
    beyond : (d : ℕ) → Ready P (Has s) d → is_seen k table s d ≡ true → Dead P (With (Has s) d)
    beyond d r h =
        ⊎_elim (same_dead P (Has (insert s d)) (With (Has s) d) (with_insert s d))
        (λ x. absurd (let a = on_le (take depth path) (insert s d) (full k) x in let b = g.at in let c = insert_gt s d (false_of (mem s d) r.fresh) in omega arith))
        (w.known (insert s d) (grown st g r) (grown_full st g r) h)

    pub seek_on : {e : ℕ} → e < P.events → NextIs P k table s e → Seek P k (take (depth + 1) (set path depth e)) (marking table (above (insert s e) k))
    seek_on {e} h n =
        let r = n.ready h in
        subst (λ (q : List ℕ). Seek P k q (marking table (above (insert s e) k))) (next_path st g r)
        (record {
          bests = trail_snoc _ (take depth path) (full k) e w.bests (subst (λ (x : ℕ). Best P (Has x) e) g.at (record { ready = r; lower = λ d q y. beyond d y (n.tried d q y) }));
          known = λ t a b c. ⊎_elim (λ x. ⊎_elim inl (λ y. inr (on_more (take depth path) t (full k) e y)) (w.known t a b x))
              (λ x. inr (on_end (take depth path) t (full k) e (above_inj k t (insert s e) b (grown_full st g r) x ∙ ap (λ (y : ℕ). insert y e) g.at)))
              (marking_cases table (above (insert s e) k) (spot_table st g r) (above t k) c);
        })

    module _ (unfinished : s ≡ full P.events → ⊥) {e : ℕ} (none : P.events ≤ e) (n : NextIs P k table s e) where
      dead : Dead P (Has s)
      dead =
          dead_here P (Has s) (λ a. unfinished (full_of P.events s (stand_lt st g) a))
          (λ d r. beyond d r (n.tried d (let z = r.event in omega arith) r))

      pub seek_none : depth ≡ 0 → Dead P (Below k)
      seek_none z =
          let p : s ≡ full k = g.at ∙ ap (λ (n : ℕ). placed (full k) (take n path)) z in
          same_dead P (Has (full k)) (Below k) (below_full k) (subst (λ (x : ℕ). Dead P (Has x)) p dead)

      pub seek_back : 0 < depth → Seek P k (take (depth - 1) path) table
      seek_back deep =
          let x = get_or path (depth - 1) 0 in
          let v = subst (λ (q : List ℕ). Seek P k q table) (last_path st g deep) w in
          record {
            bests = trail_init _ (take (depth - 1) path) (full k) x v.bests;
            known = λ t a b c. ⊎_elim inl
                (λ y. ⊎_elim inr (λ y. inl (subst (λ (z : ℕ). Dead P (Has z)) (last_at st g deep ∙ sym y) dead)) (on_less (take (depth - 1) path) t (full k) x y))
                (v.known t a b c);
          }

    pub seek_end : s ≡ full P.events → FirstOf (Runs P (Below k)) (take (P.events - k) path)
    seek_end h = way_end st.inits st.events (way st g) w.bests h
