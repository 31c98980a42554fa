-- The masks of sources by access (25): who stands in them. Assumes nothing.
--     Sourced t q k w j               row j is untorn, its reader's access stands in slot k, and w is its writer
--     sources_back, sources_new       a source is one by some row of the first n, and each such row makes one
--     sources_iff                     both, from empty masks
use mathlib.Core.Path.{◌≡◌, sym, ap, ◌∙◌, subst}
use mathlib.Core.Bool.{true, false}
use mathlib.Core.Logic.{◌⊎◌, inl, inr, ⊎_elim, ◌↔◌}
use mathlib.Core.List.{List}
use Prim.Native.Nat.{ℕ, zero, suc, ◌%◌, ◌<◌}
use native.Mathlib.Nat.{mod-eq_of_lt}
use native.Mathlib.Omega.{arith}
use native.Mathlib.Decide.{ℕ_discrete}
use lib.ListN.{length, get_or, replicate, length-replicate, get_or-replicate}
use Rattle.basis.proofs.BoolLaws.{by_bool, not_both_ways}
use Rattle.sets.specs.Mask.{slots, mem, Has}
use Rattle.sets.proofs.MaskLaws.{mem_empty}
use Rattle.cells.specs.Walk.{up_to}
use Rattle.cells.proofs.CellsLaws.{gaining_back, gaining_keep, gaining_new}
use Rattle.tables.specs.Tables.{accesses, slot_in, row_in}
use Rattle.tables.proofs.TablesLaws.{reader_slot, writer_slot}
use Rattle.torn.specs.Torn.{untorn_in, source_gains, sources_in}
use Rattle.torn.proofs.TornLaws.{row_gains, row_keeps, sources_length}

pub record Sourced (t q : List ℕ) (k w j : ℕ) : Type 0 where
  pub untorn : untorn_in t (row_in q j) ≡ true
  pub slot : slot_in t (row_in q j).reader (row_in q j).address ≡ k
  pub writer : (row_in q j).writer ≡ w

module _ (t q l : List ℕ) (k w : ℕ) (inside : k < length l) where
  room : (n : ℕ) → k < length (sources_in t q n l)
  room n = let z = sources_length t q l n in omega arith

  same_slot : (n : ℕ) → slot_in t ((row_in q n).reader % slots) (row_in q n).address ≡ slot_in t (row_in q n).reader (row_in q n).address
  same_slot n = ap (λ (e : ℕ). slot_in t e (row_in q n).address) (mod-eq_of_lt (reader_slot q n))

  same_writer : (n : ℕ) → (row_in q n).writer % slots ≡ (row_in q n).writer
  same_writer n = mod-eq_of_lt (writer_slot q n)

  pub sources_back : (n : ℕ) → Has (get_or (sources_in t q n l) k 0) w → Has (get_or l k 0) w ⊎ ((j : ℕ) × ((j < n) × Sourced t q k w j))
  unfolding sources_in up_to
  sources_back zero h = inl h
  sources_back (suc n) h = by_bool (untorn_in t (row_in q n)) (λ u. some u (sources_back n)) (λ u. none u (sources_back n))
    where
      more : Has (get_or l k 0) w ⊎ ((j : ℕ) × ((j < n) × Sourced t q k w j)) → Has (get_or l k 0) w ⊎ ((j : ℕ) × ((j < suc n) × Sourced t q k w j))
      more (inl g) = inl g
      more (inr g) = inr (g.0, (omega (arith, g.1.0), g.1.1))

      none : untorn_in t (row_in q n) ≡ false → (Has (get_or (sources_in t q n l) k 0) w → Has (get_or l k 0) w ⊎ ((j : ℕ) × ((j < n) × Sourced t q k w j)))
          → Has (get_or l k 0) w ⊎ ((j : ℕ) × ((j < suc n) × Sourced t q k w j))
      none u ih = more (ih (subst (λ (z : List ℕ). Has (get_or z k 0) w) (row_keeps t (row_in q n) (sources_in t q n l) u) h))

      some : untorn_in t (row_in q n) ≡ true → (Has (get_or (sources_in t q n l) k 0) w → Has (get_or l k 0) w ⊎ ((j : ℕ) × ((j < n) × Sourced t q k w j)))
          → Has (get_or l k 0) w ⊎ ((j : ℕ) × ((j < suc n) × Sourced t q k w j))
      some u ih =
          ⊎_elim (λ g. more (ih g))
          (λ g. inr (n, (omega arith, record { untorn = u; slot = sym (same_slot n) ∙ g.0; writer = sym (same_writer n) ∙ g.1 })))
          (gaining_back (sources_in t q n l) (slot_in t ((row_in q n).reader % slots) (row_in q n).address) ((row_in q n).writer % slots) k w (room n)
          (subst (λ (z : List ℕ). Has (get_or z k 0) w) (row_gains t (row_in q n) (sources_in t q n l) u) h))

  step_keep : (n : ℕ) → Has (get_or (sources_in t q n l) k 0) w → Has (get_or (source_gains t (row_in q n) (sources_in t q n l)) k 0) w
  step_keep n h =
      by_bool (untorn_in t (row_in q n))
      (λ u. subst (λ (z : List ℕ). Has (get_or z k 0) w) (sym (row_gains t (row_in q n) (sources_in t q n l) u))
      (gaining_keep (sources_in t q n l) (slot_in t ((row_in q n).reader % slots) (row_in q n).address) ((row_in q n).writer % slots) k w (room n) h))
      (λ u. subst (λ (z : List ℕ). Has (get_or z k 0) w) (sym (row_keeps t (row_in q n) (sources_in t q n l) u)) h)

  pub sources_new : (n j : ℕ) → j < n → Sourced t q k w j → Has (get_or (sources_in t q n l) k 0) w
  unfolding sources_in up_to
  sources_new zero j h s = absurd (omega arith)
  sources_new (suc n) j h s = go (ℕ_discrete j n) (sources_new n j)
    where
      go : Dec (j ≡ n) → (j < n → Sourced t q k w j → Has (get_or (sources_in t q n l) k 0) w) → Has (get_or (source_gains t (row_in q n) (sources_in t q n l)) k 0) w
      go (no d) ih = step_keep n (ih (omega (arith, d)) s)
      go (yes d) ih =
          let u : Sourced t q k w n = subst (Sourced t q k w) d s in
          subst (λ (z : List ℕ). Has (get_or z k 0) w) (sym (row_gains t (row_in q n) (sources_in t q n l) u.untorn))
          (gaining_new (sources_in t q n l) (slot_in t ((row_in q n).reader % slots) (row_in q n).address) ((row_in q n).writer % slots) k w (room n) (same_slot n ∙ u.slot) (same_writer n ∙ u.writer))

pub sources_iff : (t q : List ℕ) (n k w : ℕ) → k < accesses → Has (get_or (sources_in t q n (replicate accesses 0)) k 0) w ↔ ((j : ℕ) × ((j < n) × Sourced t q k w j))
sources_iff t q n k w h =
    let z = length-replicate {A = ℕ} accesses 0 in (
      λ g. ⊎_elim (λ c. absurd (not_both_ways c (ap (λ (y : ℕ). mem y w) (get_or-replicate accesses k 0 0 h) ∙ mem_empty w))) (λ c. c) (sources_back t q (replicate accesses 0) k w (omega arith) n g),
      λ s. sources_new t q (replicate accesses 0) k w (omega arith) n s.0 s.1.0 s.1.1,
    )
