-- How many bytes the slices of a well-formed execution's table have, at most. Assumes nothing.
--     data_few                                              64 bytes of data for each init, 16 for each other event
--     events_room, data_room, rows_room, pairs_room         the slices, by 01's limits
use mathlib.Core.Path.{◌≡◌, refl, ap, ◌∙◌}
use mathlib.Core.Bool.{Bool, true, false, cond}
use mathlib.Core.List.{List, [], ◌∷◌, ◌++◌}
use Prim.Native.Nat.{ℕ, suc, ◌+◌, ◌*◌, ◌<◌, ◌≤◌}
use native.Mathlib.Omega.{arith}
use borrow.Author.Tests.{eqb-true, eqb-false}
use lib.Dec.{eqb}
use lib.ListN.{length, get_or, length-append}
use Rattle.basis.specs.Test.{non, number, each}
use Rattle.basis.proofs.ListLaws.{each_length}
use Rattle.format.specs.declared.Head.{Head}
use Rattle.format.specs.Limits.{max_inits, max_others, max_events, max_memory, max_pairs}
use Rattle.format.specs.Event.{Access, Event, nothing, nobody, is_init}
use Rattle.format.specs.Execution.{Execution, event_no, event, inits, others}
use Rattle.format.specs.Layout.{data_bytes}
use Rattle.parse.specs.Promise.{WellEvent, WellFormed}
use Rattle.parse.proofs.CountLaws.{others_narrow, rows_by_others, events_few}
use Rattle.encode.specs.Table.{describe_by, describe, table_of}
use Rattle.encode.specs.Encode.{row_value, pair_value}
use Rattle.encode.specs.Lend.{eight, data_of, flat, slices_of}
use Rattle.encode.proofs.LendLaws.{flat_length}
use Rattle.encode.proofs.WellEventLaws.{well_data}

module _ (h : Head) (small : h.size ≤ max_memory) where
  data_here : (d : Event) → WellEvent h d → length (data_of (describe d)) ≤ cond (is_init d) 64 16
  unfolding describe data_bytes is_init
  data_here d w =
      go (eqb d.agent 0) refl (eqb w.access.shape.kind 3) refl
      (ap (λ (l : List Access). length (data_of (describe_by d.agent (get_or l 0 nothing)))) w.one_access ∙ well_data h d w)
    where
      go : (i : Bool) → eqb d.agent 0 ≡ i → (c : Bool) → eqb w.access.shape.kind 3 ≡ c
          → length (data_of (describe d)) ≡ cond c (w.access.shape.width + w.access.shape.width) w.access.shape.width → length (data_of (describe d)) ≤ cond i 64 16
      go true p true q l = absurd (let k = w.init_kind (w.init_agent.1 (eqb-true _ _ p)) in let m : w.access.shape.kind ≡ 3 = eqb-true _ _ q in omega (arith, k, m))
      go true p false q l = let i = w.inside in omega arith
      go false p true q l = let n = others_narrow h d w (eqb-false _ _ p) in omega arith
      go false p false q l = let n = others_narrow h d w (eqb-false _ _ p) in omega arith

  pub data_few : (l : List Event) → ((i : ℕ) → i < length l → WellEvent h (get_or l i nobody))
      → length (flat data_of (each describe l)) ≤ number is_init l * 64 + number (λ (d : Event). non (is_init d)) l * 16
  unfolding flat each number non
  data_few [] g = omega arith
  data_few (d ∷ l) g = go (is_init d) (data_here d (g 0 (omega arith))) (data_few l (λ i b. g (suc i) (omega arith)))
    where
      go : (c : Bool) → length (data_of (describe d)) ≤ cond c 64 16
          → length (flat data_of (each describe l)) ≤ number is_init l * 64 + number (λ (e : Event). non (is_init e)) l * 16
          → length (data_of (describe d) ++ flat data_of (each describe l))
          ≤ cond c (suc (number is_init l)) (number is_init l) * 64
          + cond (non c) (suc (number (λ (e : Event). non (is_init e)) l)) (number (λ (e : Event). non (is_init e)) l) * 16
      go true a b = let e = length-append (data_of (describe d)) (flat data_of (each describe l)) in omega arith
      go false a b = let e = length-append (data_of (describe d)) (flat data_of (each describe l)) in omega arith

module _ (x : Execution) (w : WellFormed x) where
  pub events_room : length (slices_of (table_of x)).events ≤ max_events * 8
  unfolding table_of
  events_room =
      let l = flat_length eight 8 (λ _. refl) (each describe x.events) in
      let n = each_length describe x.events in
      let f = events_few x w in
      omega arith

  pub data_room : length (slices_of (table_of x)).bytes ≤ max_inits * max_memory + max_others * 16
  unfolding table_of inits others event event_no
  data_room =
      let d = data_few x.head w.size.1 x.events w.events in
      let i = w.inits_few in
      let o = w.others_few in
      omega arith

  pub rows_room : length (slices_of (table_of x)).rows ≤ max_others * 8 * 3
  unfolding table_of
  rows_room =
      let l = flat_length (row_value x.head.edition) 3 (λ _. refl) x.rows in
      let r = rows_by_others x w in
      let o = w.others_few in
      omega arith

  pub pairs_room : length (slices_of (table_of x)).pairs ≤ max_pairs * 2
  unfolding table_of
  pairs_room = let l = flat_length pair_value 2 (λ _. refl) x.pairs in let p = w.pairs_few in omega arith
