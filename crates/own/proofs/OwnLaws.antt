-- The laws of specs/Own.antt and specs/steps/ByAgent.antt. Assumes nothing.
--     own_init, own_other                        the mask of an init, of another event
--     agents_none, agents_more, agents_length, agents_mem     each agent's events
--     behind_is, ahead_is, later_is, earlier_is  the masks by agent give the same
use mathlib.Core.Path.{◌≡◌, refl, sym, ap, ◌∙◌}
use mathlib.Core.Bool.{Bool, true, false, cond, not}
use mathlib.Core.List.{List}
use Prim.Native.Nat.{ℕ, zero, suc, ◌+◌, ◌-◌, ◌^◌, ◌<◌, ◌≤◌, min}
use native.Mathlib.Omega.{arith}
use native.Mathlib.Decide.{dec_lt}
use borrow.Author.Tests.{lt-ltb, le-ltb, ltb-true}
use lib.Bits.{bit_and}
use lib.Dec.{eqb, ltb}
use lib.ListN.{length, get_or, replicate, length-replicate, get_or-replicate}
use Rattle.basis.specs.Test.{◌and◌, ◌or◌, non}
use Rattle.basis.proofs.BoolLaws.{and_fails, and_both, or_none, non_holds, and_assoc, or_assoc, non_fails, eqb_swap, below_next, amp_and, not_non, false_of}
use Rattle.sets.specs.Mask.{slots, mem, full}
use Rattle.sets.proofs.MaskLaws.{mem_empty, mem_and, mem_diff, mem_full, full_has, lt_of_members, ext_all}
use Rattle.cells.specs.Walk.{up_to, picked}
use Rattle.cells.specs.Cells.{gaining}
use Rattle.cells.proofs.WalkLaws.{up_to_more, mem_picked}
use Rattle.cells.proofs.CellsLaws.{gaining_length, gaining_mem}
use Rattle.tables.specs.Tables.{agent_room, agent_in}
use Rattle.tables.proofs.TablesLaws.{agent_place}
use Rattle.own.specs.Own.{met_in, later_in, own_in, later_of, earlier_of}
use Rattle.own.specs.steps.ByAgent.{agents_in, behind_in, ahead_in, later_by, earlier_by}

-- ---- masks of events

module _ (t : List ℕ) (n e : ℕ) where
  pub own_init : eqb (agent_in t e) 0 ≡ true → picked n (met_in t e) ≡ own_in t n e
  unfolding own_in
  own_init h = sym (ap (λ (b : Bool). cond b (picked n (met_in t e)) (picked n (later_in t e))) h)

  pub own_other : eqb (agent_in t e) 0 ≡ false → picked n (later_in t e) ≡ own_in t n e
  unfolding own_in
  own_other h = sym (ap (λ (b : Bool). cond b (picked n (met_in t e)) (picked n (later_in t e))) h)

module _ (t : List ℕ) (by : List ℕ) where
  pub agents_none : by ≡ agents_in t 0 by
  unfolding agents_in up_to
  agents_none = refl

  pub agents_more : (n : ℕ) → gaining (agents_in t n by) (agent_in t n) n ≡ agents_in t (n + 1) by
  unfolding agents_in
  agents_more n = sym (up_to_more (λ (e : ℕ) (m : List ℕ). gaining m (agent_in t e) e) n by)

  pub agents_length : (n : ℕ) → length (agents_in t n by) ≡ length by
  unfolding agents_in up_to
  agents_length zero = refl
  agents_length (suc n) = gaining_length (agents_in t n by) (agent_in t n) n ∙ agents_length n

  -- the events of an agent
  pub agents_mem : length by ≡ agent_room → (n a d : ℕ) → mem (get_or (agents_in t n by) a 0) d ≡ (mem (get_or by a 0) d or (ltb d n and eqb (agent_in t d) a))
  unfolding agents_in up_to ◌or◌
  agents_mem long zero a d = sym (ap (λ (b : Bool). mem (get_or by a 0) d or b) (and_fails (ltb d 0) (eqb (agent_in t d) a) (le-ltb d 0 (omega arith))) ∙ or_none (mem (get_or by a 0) d))
  agents_mem long (suc n) a d =
      gaining_mem (agents_in t n by) (agent_in t n) n a d (let z = agents_length n in let y = agent_place t n in omega arith)
      ∙ ap (λ (b : Bool). b or (eqb (agent_in t n) a and eqb n d)) (agents_mem long n a d)
      ∙ or_assoc (mem (get_or by a 0) d) (ltb d n and eqb (agent_in t d) a) (eqb (agent_in t n) a and eqb n d)
      ∙ ap (λ (b : Bool). mem (get_or by a 0) d or b) (below_next (λ (i : ℕ). eqb (agent_in t i) a) n d)

-- the masks by agent give what is later
module _ (t : List ℕ) (n e : ℕ) (few : n ≤ slots) (h : e < n) where
  abbrev by : List ℕ
  by = agents_in t n (replicate agent_room 0)

  by_mem : (d : ℕ) → mem (get_or by (agent_in t e) 0) d ≡ (ltb d n and eqb (agent_in t d) (agent_in t e))
  unfolding ◌or◌
  by_mem d =
      agents_mem t (replicate agent_room 0) (length-replicate {A = ℕ} agent_room 0) n (agent_in t e) d
      ∙ ap (λ (b : Bool). b or (ltb d n and eqb (agent_in t d) (agent_in t e))) (ap (λ (i : ℕ). mem i d) (get_or-replicate agent_room (agent_in t e) 0 0 (agent_place t e)) ∙ mem_empty d)

  by_lt : get_or by (agent_in t e) 0 < 2 ^ slots
  by_lt = lt_of_members slots (get_or by (agent_in t e) 0) (λ d g. let l = ltb-true d n (and_both (ltb d n) _ (sym (by_mem d) ∙ g)).0 in omega arith)

  pub behind_is : behind_in t by e ≡ picked n (later_in t e)
  unfolding behind_in later_in
  behind_is =
      let i : min (e + 1) slots ≡ e + 1 = omega arith in
      ap (λ (k : ℕ). bit_and (get_or by (agent_in t e) 0) (2 ^ slots - 1 - full k)) i
      ∙ ext_all (bit_and (get_or by (agent_in t e) 0) (2 ^ slots - 1 - full (e + 1))) (picked n (later_in t e))
      (λ d. mem_diff slots (get_or by (agent_in t e) 0) (full (e + 1)) d by_lt (lt_of_members slots (full (e + 1)) (λ i g. let z = full_has (e + 1) i g in omega arith))
      ∙ amp_and (mem (get_or by (agent_in t e) 0) d) (not (mem (full (e + 1)) d))
      ∙ ap (λ (b : Bool). mem (get_or by (agent_in t e) 0) d and b) (not_non (mem (full (e + 1)) d))
      ∙ ap (λ (b : Bool). b and non (mem (full (e + 1)) d)) (by_mem d)
      ∙ turned d (dec_lt e d) ∙ sym (mem_picked n (later_in t e) d))
    where
      in_full : (d : ℕ) → Dec (e < d) → non (mem (full (e + 1)) d) ≡ ltb e d
      in_full d (yes l) = non_holds _ (false_of _ (λ g. let z = full_has (e + 1) d g in absurd (omega arith))) ∙ sym (lt-ltb e d l)
      in_full d (no l) = non_fails _ (mem_full (e + 1) d (omega (arith, l))) ∙ sym (le-ltb e d (omega (arith, l)))

      turned : (d : ℕ) → Dec (e < d) → ((ltb d n and eqb (agent_in t d) (agent_in t e)) and non (mem (full (e + 1)) d)) ≡ (ltb d n and (eqb (agent_in t e) (agent_in t d) and ltb e d))
      turned d l =
          ap (λ (b : Bool). (ltb d n and eqb (agent_in t d) (agent_in t e)) and b) (in_full d l)
          ∙ and_assoc (ltb d n) (eqb (agent_in t d) (agent_in t e)) (ltb e d)
          ∙ ap (λ (b : Bool). ltb d n and (b and ltb e d)) (eqb_swap (agent_in t d) (agent_in t e))

  pub ahead_is : ahead_in t by e ≡ picked n (λ (d : ℕ). later_in t d e)
  unfolding ahead_in later_in
  ahead_is =
      let i : min e slots ≡ e = omega arith in
      ap (λ (k : ℕ). bit_and (get_or by (agent_in t e) 0) (full k)) i
      ∙ ext_all (bit_and (get_or by (agent_in t e) 0) (full e)) (picked n (λ (d : ℕ). later_in t d e))
      (λ d. mem_and (get_or by (agent_in t e) 0) (full e) d
      ∙ amp_and (mem (get_or by (agent_in t e) 0) d) (mem (full e) d)
      ∙ ap (λ (b : Bool). b and mem (full e) d) (by_mem d)
      ∙ ap (λ (b : Bool). (ltb d n and eqb (agent_in t d) (agent_in t e)) and b) (low d (dec_lt d e))
      ∙ and_assoc (ltb d n) (eqb (agent_in t d) (agent_in t e)) (ltb d e)
      ∙ sym (mem_picked n (λ (d : ℕ). later_in t d e) d))
    where
      low : (d : ℕ) → Dec (d < e) → mem (full e) d ≡ ltb d e
      low d (yes l) = mem_full e d l ∙ sym (lt-ltb d e l)
      low d (no l) = false_of _ (λ g. let z = full_has e d g in absurd (l z)) ∙ sym (le-ltb d e (omega (arith, l)))

  pub later_is : later_by t by e ≡ later_of t n e
  unfolding later_by later_of
  later_is = ap (cond (eqb (agent_in t e) 0) 0) behind_is

  pub earlier_is : earlier_by t by e ≡ earlier_of t n e
  unfolding earlier_by earlier_of
  earlier_is = ap (cond (eqb (agent_in t e) 0) 0) ahead_is
