-- Every answer that is Judged fits the exported word, and no name in it is the byte that stands for none (answer/specs/Fit.antt). Assumes nothing.
--     address_below     the address of a row is within the memory
--     breaks_fits, pair_fits_lem     the names of a broken rule, an unsettled pair
--     judged_fits       Judged .. a .. → Fits 255 a
--     same_word         two sheets with one word got one answer
use mathlib.Core.Path.{◌≡◌, refl, sym, ap, subst, ◌∙◌}
use mathlib.Core.Logic.{⊎_elim}
use mathlib.Core.Bool.{Bool}
use mathlib.Core.List.Memᴰ
use mathlib.Core.List.{List, Memᴰ}
use mathlib.Core.Option.{Option, none, some}
use Prim.Native.Nat.{ℕ, ◌+◌, ◌^◌, ◌≤◌, ◌<◌}
use native.Mathlib.Omega.{arith}
use native.Mathlib.Decide.{dec_lt}
use lib.Dec.{ltb→lt}
use lib.ListN.{length}
use Rattle.basis.proofs.BoolLaws.{and_elim}
use Rattle.basis.proofs.ListLaws.{get_or_mem}
use Rattle.format.specs.declared.Shape.{Shape}
use Rattle.format.specs.Limits.{max_bytes, max_memory, max_events}
use Rattle.format.specs.Shape.{covers}
use Rattle.format.specs.Event.{Access, shape_at}
use Rattle.format.specs.Execution.{Execution, event, blank_row}
use Rattle.format.proofs.ExecutionLaws.{shape_mem, reads_covers}
use Rattle.parse.specs.Parse.{refused, parse}
use Rattle.parse.specs.Promise.{WellFormed, row}
use Rattle.parse.proofs.ParseLaws.{too_long}
use Rattle.parse.proofs.PromiseLaws.{promise}
use Rattle.parse.proofs.RefusalLaws.{refusal_low}
use Rattle.answer.specs.declared.Names.{Names}
use Rattle.answer.specs.declared.Settled.{Settled}
use Rattle.answer.specs.declared.Answer.{Answer}
use Rattle.answer.specs.declared.Answer.TheVariants.{Refused, Broken, Consistent}
use Rattle.answer.specs.NameOf.{names_of, pair_of}
use Rattle.answer.specs.Fit.{FourBelow, Fits}
use Rattle.answer.specs.Word.{packed}
use Rattle.answer.proofs.ReadLaws.{packed_unique}
use Rattle.model.specs.Happens.{Tests}
use Rattle.model.specs.Rules.{faulty}
use Rattle.model.specs.Unsettled.{unsettled_pair}
use Rattle.model.specs.Judged.{admitted, Breaks, settled_of, Judged}
use Rattle.model.specs.Lowest.{LowestNames, at_21, at_22, at_23, at_24, at_25, at_26}
use Rattle.model.proofs.Sound.{sound}
use Rattle.model.proofs.HappensLaws.{reader_inside, writer_inside}
use Rattle.model.proofs.UnsettledLaws.{unsettled_inside}
use Rattle.model.proofs.FirstLaws.{pair_lowest}
use Rattle.model.proofs.LowestLaws.{event_22, event_24, events_25, breaks_first}
use Rattle.model.proofs.JudgedLaws.{admitted_whole, Short, scratch_short, order_short, refused_cases}
use Rattle.model.proofs.VerdictLaws.{few_events}

-- ---- a refusal

short_fits : (s : List ℕ) (room places n p : ℕ) → Short s room places n p → (n < 256) × (p < 2 ^ 32)
short_fits s room places n p (scratch_short x d h) = (omega arith, omega arith)
short_fits s room places n p (order_short x d h k) = (omega arith, omega arith)

module _ (n p : ℕ) where
  parsed_fits : (s : List ℕ) → parse s ≡ refused n p → (n < 256) × (p < 2 ^ 32)
  parsed_fits s e = let w = refusal_low s n p e in (omega arith, omega arith)

  refusal_fits : (s : List ℕ) (room places : ℕ) → admitted s room places ≡ refused n p → (n < 256) × (p < 2 ^ 32)
  refusal_fits s room places e = ⊎_elim (parsed_fits s) (short_fits s room places n p) (refused_cases s room places n p e)

-- ---- names

module _ (x : Execution) (wf : WellFormed x) where
  module _ (j : ℕ) (b : j < length x.rows) where
    pub reader_below : (row x j).reader < max_events
    reader_below = let h = reader_inside x (sound x wf) (row x j) (get_or_mem blank_row x.rows j b) in let f = few_events x wf in omega arith

    pub writer_below : (row x j).writer < max_events
    writer_below = let h = writer_inside x (sound x wf) (row x j) (get_or_mem blank_row x.rows j b) in let f = few_events x wf in omega arith

    pub address_below : (row x j).address < max_memory
    unfolding covers
    address_below =
        let e = (row x j).reader in let n = (row x j).address in
        let c = reads_covers (event x e) n (wf.row_reads j b) in
        let m = shape_mem (event x e) n c in
        let w = wf.events e (reader_inside x (sound x wf) (row x j) (get_or_mem blank_row x.rows j b)) in
        let q : m.0 ≡ w.access = Memᴰ.eq_of_singleton (subst (λ (l : List Access). Memᴰ m.0 l) w.one_access m.1) in
        let i : (shape_at (event x e) n).start + (shape_at (event x e) n).width ≤ x.head.size =
        subst (λ (a : Shape). a.start + a.width ≤ x.head.size) (ap (λ (a : Access). a.shape) (sym q) ∙ m.2) w.inside in
        let h : n < (shape_at (event x e) n).start + (shape_at (event x e) n).width = ltb→lt _ _ (and_elim _ _ c).1 in
        omega (arith, h, i, wf.size.1)

  lowest_fits : (hb : ℕ → ℕ → Bool) → Tests x hb → (n : ℕ) (names : Names) → LowestNames x hb n names → (n < 256) × FourBelow 255 (names_of names)
  lowest_fits hb tests n names (at_21 j b t l) =
      let r = reader_below j b in let w = writer_below j b in let a = address_below j b in
      (omega arith, record { first = omega arith; second = omega arith; third = tt; fourth = omega arith })
  lowest_fits hb tests n names (at_22 e t l) =
      let h = event_22 x hb wf (sound x wf) tests e t in let f = few_events x wf in
      (omega arith, record { first = omega arith; second = tt; third = tt; fourth = tt })
  lowest_fits hb tests n names (at_23 j b t l) =
      let r = reader_below j b in let w = writer_below j b in let a = address_below j b in
      (omega arith, record { first = omega arith; second = omega arith; third = tt; fourth = omega arith })
  lowest_fits hb tests n names (at_24 j v b t l) =
      let r = reader_below j b in let w = writer_below j b in let a = address_below j b in
      let h = event_24 x hb wf (sound x wf) tests (row x j) v t in let f = few_events x wf in
      (omega arith, record { first = omega arith; second = omega arith; third = omega arith; fourth = omega arith })
  lowest_fits hb tests n names (at_25 r w v t l) =
      let h = events_25 x hb wf (sound x wf) tests r w v t in let f = few_events x wf in
      (omega arith, record { first = omega (arith, h.0); second = omega (arith, h.1); third = omega (arith, h.2); fourth = tt })
  lowest_fits hb tests n names (at_26 b) = (omega arith, record { first = tt; second = tt; third = tt; fourth = tt })

  pub breaks_fits : (hb : ℕ → ℕ → Bool) → Tests x hb → (n : ℕ) (names : Names) → Breaks x hb (faulty n names) → (n < 256) × FourBelow 255 (names_of names)
  breaks_fits hb tests n names b = lowest_fits hb tests n names (breaks_first x hb wf (sound x wf) tests (faulty n names) b).lowest

  pub pair_fits_lem : (hb : ℕ → ℕ → Bool) (o : Option (ℕ × ℕ)) → unsettled_pair x hb ≡ o → FourBelow 255 (pair_of (settled_of o))
  unfolding settled_of
  pair_fits_lem hb none q = record { first = tt; second = tt; third = tt; fourth = tt }
  pair_fits_lem hb (some p) q =
      let i = unsettled_inside x hb p.0 p.1 (pair_lowest x hb p.0 p.1 q).0 in let f = few_events x wf in
      record { first = omega (arith, i.0); second = omega (arith, i.1); third = tt; fourth = tt }

-- ---- the answer

pub judged_fits : (s scratch order : List ℕ) (a : Answer) (scratch' order' : List ℕ) → Judged s scratch order a scratch' order' → Fits 255 a
judged_fits s scratch order (Refused n p) scratch' order' j = refusal_fits n p s (length scratch) (length order) j.says
judged_fits s scratch order (Broken n names) scratch' order' j =
    let w = promise s j.execution (admitted_whole s (length scratch) (length order) j.execution j.describes).describes in
    breaks_fits j.execution w j.hb j.tests n names j.breaks
judged_fits s scratch order (Consistent t) scratch' order' j =
    let w = promise s j.execution (admitted_whole s (length scratch) (length order) j.execution j.describes).describes in
    subst (λ (u : Settled). FourBelow 255 (pair_of u)) (sym j.pair) (pair_fits_lem j.execution w j.hb (unsettled_pair j.execution j.hb) refl)

pub same_word : (s scratch order t room places : List ℕ) (a b : Answer) (scratch' order' room' places' : List ℕ)
    → Judged s scratch order a scratch' order' → Judged t room places b room' places' → packed a ≡ packed b → a ≡ b
same_word s scratch order t room places a b scratch' order' room' places' j k =
    packed_unique a b (judged_fits s scratch order a scratch' order' j) (judged_fits t room places b room' places' k)
