-- The reader accepts just the well-formed sheets, each as what it describes: specs/WellSheet.antt. What it accepts is well formed by `promise` and
-- `accepted_framed`; a well-formed sheet is walked field by field, each an entry of what the whole sheet describes, of which 01's bullets hold.
--     accepted_well                 what is accepted is well formed
--     well_accepted                 what is well formed is accepted
--     exactly : Exactly             both
--     allows_to                     a tag behind one that is not above it is allowed
-- Assumes nothing.
use mathlib.Core.Path.{◌≡◌, refl, sym, ap, ◌∙◌}
use mathlib.Core.Logic.{inl, inr}
use mathlib.Core.Bool.{true}
use mathlib.Core.List.{List}
use Prim.Native.Nat.{ℕ, suc, ◌+◌, ◌-◌, ◌≤◌}
use native.Mathlib.Omega.{arith}
use borrow.Author.Tests.{le-ltb}
use lib.ListN.{length}
use Rattle.format.specs.declared.Head.{Head}
use Rattle.format.specs.Execution.{Execution}
use Rattle.format.specs.Field.{field_bytes, tag_at, next_at, value_at}
use Rattle.format.specs.Layout.{edition_of, head_of}
use Rattle.content.proofs.ContentLaws.{within_holds}
use Rattle.parse.specs.Parse.{whole, State, blank, allowed, value_fault, value_fault_by, fault_at, fault_by, taken, after, fields_from, parse}
use Rattle.parse.specs.Promise.{WellFormed}
use Rattle.parse.specs.Described.{fields_taken, described}
use Rattle.parse.specs.Framed.{Long, Fields, no_more, one_more}
use Rattle.parse.specs.WellSheet.{WellSheet, Exactly}
use Rattle.parse.proofs.ParseLaws.{at_start, at_end, at_next}
use Rattle.parse.proofs.PromiseLaws.{promise}
use Rattle.parse.proofs.DescribedLaws.{taken_end, taken_next, parse_described}
use Rattle.parse.proofs.FormedLaws.{passed, passed_non, head_passes, event_passes, row_passes, pair_passes, ends}
use Rattle.parse.proofs.FramedLaws.{got, NoHead, sits_tag, Grown, grown, accepted_framed}

pub accepted_well : (s : List ℕ) (x : Execution) → parse s ≡ whole x → WellSheet s x
accepted_well s x e =
    let f = accepted_framed s x e in record { short = f.0; framed = f.1; describes = sym (parse_described s x e); well_formed = promise s x e }

-- ---- a field that sits, of what is well formed, has no fault

field_passes : (s : List ℕ) (p : ℕ) (st : State) → next_at s p ≤ length s → allowed st.tag (tag_at s p) ≡ true → value_fault st.got (tag_at s p) (value_at s p) ≡ 0 → fault_at s p st ≡ 0
unfolding fault_by
field_passes s p st i a v =
    passed _ _ _ (le-ltb (length s) (p + field_bytes) (omega arith)) (passed_non _ _ _ a (passed _ _ _ (le-ltb (length s) (next_at s p) i) v))

pub allows_to : (tag last : ℕ) → NoHead tag → 1 ≤ last → last ≤ tag → allowed last tag ≡ true
unfolding allowed
allows_to tag last (inl e) a b = rw e (within_holds 1 2 last a (omega arith))
allows_to tag last (inr (inl e)) a b = rw e (within_holds 1 3 last a (omega arith))
allows_to tag last (inr (inr e)) a b = rw e (within_holds 1 4 last a (omega arith))

module _ (x : Execution) (w : WellFormed x) where
  value_passes : (y : Execution) (tag : ℕ) (v : List ℕ) → NoHead tag → Long x.head.edition tag v → y.head ≡ x.head
      → Grown tag (taken y tag v) x → value_fault y tag v ≡ 0
  unfolding taken value_fault_by
  value_passes y tag v (inl e) l h q =
      let g : Grown 2 (taken y 2 v) x = rw e at q in
      rw (e, h) (event_passes x w y.events v (rw h at g.events) (l.event e))
  value_passes y tag v (inr (inl e)) l h q =
      let g : Grown 3 (taken y 3 v) x = rw e at q in
      let a : y.events ≡ x.events = g.all_events (omega arith) in
      rw (e, h, a) (row_passes x w y.rows v g.rows (l.row e))
  value_passes y tag v (inr (inr e)) l h q =
      let g : Grown 4 (taken y 4 v) x = rw e at q in
      let a : y.events ≡ x.events = g.all_events (omega arith) in
      rw (e, a) (pair_passes x w y.pairs v g.pairs (l.pair e))

-- ---- field by field

module _ (s : List ℕ) (x : Execution) (w : WellFormed x) where
  walk : {p last : ℕ} → Fields s x.head.edition p last → (k : ℕ) (st : State) → length s ≤ k + p → 1 ≤ last → st.tag ≡ last → st.got.head ≡ x.head
      → (fields_taken s (suc k) p st).got ≡ x → fields_from s (suc k) p st ≡ whole x
  unfolding after
  walk (no_more p last e) k st b l t h d = at_end s k p st (omega arith) ∙ ends x w s st (omega arith) (ap got (sym (taken_end s k p st (omega arith))) ∙ d)
  walk (one_more p last i f) k st b l t h d =
      let j = i.inside in
      let m = i.rises in
      let c = ap got (taken_next s k p st (omega arith) b) ∙ d in
      let g = grown s x f (k - 1) (after s p st) (omega arith) c in
      let v = value_passes x w st.got (tag_at s p) (value_at s p) (sits_tag i) i.long h g in
      let z = field_passes s p st j (allows_to (tag_at s p) st.tag (sits_tag i) (omega arith) (omega arith)) v in
      at_next s k p st (omega arith) b z ∙ walk f (k - 1) (after s p st) (omega arith) (omega arith) refl g.head c

pub well_accepted : (s : List ℕ) (x : Execution) → WellSheet s x → parse s ≡ whole x
unfolding described after taken allowed value_fault_by
well_accepted s x w =
    let f = w.framed in
    let i = f.inside in
    let st = after s 0 blank in
    let d = ap got (taken_next s (length s) 0 blank (omega arith) (omega arith)) ∙ w.describes in
    let g = grown s x f.fields (length s - 1) st (omega arith) d in
    let h : head_of (edition_of (value_at s 0)) (value_at s 0) ≡ x.head = rw f.head at g.head in
    let z = field_passes s 0 blank i (rw f.head) (rw f.head (head_passes x w.well_formed (value_at s 0) h (f.long.head refl))) in
    at_start s w.short ∙ at_next s (length s) 0 blank (omega arith) (omega arith) z
    ∙ walk s x w.well_formed (rw (ap (λ (y : Head). y.edition) h) at f.fields) (length s - 1) st (omega arith) (omega arith) f.head g.head d

pub exactly : Exactly
exactly s x = (accepted_well s x, well_accepted s x)
