-- Inits, one behind the other: what is known of where they end. Assumes nothing.
--     first_not, first_held, first_apart     the test of an init, as the code makes it
--     clear_start, clear_next                where no event lies, at the first and behind one more
--     lined_of                               behind as many inits as events
use Prim.Native.Nat.{ℕ, ◌+◌, ◌≤◌, ◌<◌}
use mathlib.Core.Path.{◌≡◌, refl, sym, ap, ◌∙◌, subst}
use mathlib.Core.Bool.{Bool, true, false, not, false≢true}
use mathlib.Core.List.{List}
use native.Mathlib.Omega.{arith}
use borrow.Author.Tests.{eq-eqb, ltb-true, not-true, not-false}
use lib.Dec.{ltb}
use lib.ListN.{length, set}
use Rattle.basis.specs.Test.{any}
use Rattle.basis.proofs.BoolLaws.{false_of, and_both, and_holds, and_fails, both_hold, or_fails, non_holds}
use Rattle.basis.proofs.LoopLaws.{any_one, any_snoc, all_number}
use Rattle.format.specs.declared.Head.{Head}
use Rattle.format.specs.declared.Shape.{Shape}
use Rattle.format.specs.Shape.{overlap}
use Rattle.format.specs.Event.{Access, Event, is_init, meets}
use Rattle.format.specs.Execution.{inits}
use Rattle.format.specs.Field.{rest_at}
use Rattle.format.specs.Layout.{shape_of}
use Rattle.content.specs.Content.{stands_first}
use Rattle.entries.specs.declared.Counts.{Counts}
use Rattle.entries.specs.Entries.{event_at, events_on, events_in}
use Rattle.entries.proofs.EntriesLaws.{events_count}
use Rattle.faults.specs.Faults.{InitTold}
use Rattle.spot.specs.Between.{Between, behind}
use Rattle.plain.specs.steps.Growing.{Clear, Lined, FirstTold}
use Rattle.spot.proofs.BetweenLaws.{counted_of, events_none, events_more}

-- ---- the test

module _ (s : List ℕ) (p : ℕ) (x : Counts) (at : List ℕ) (r : Bool) (told : InitTold s p x r) where
  pub first_not : not r ≡ true → FirstTold s p x at false
  first_not h = record { is = sym (and_fails _ _ (sym told.is ∙ not-true r h)); clean = λ e. absurd (false≢true e) }

  module _ (h : not r ≡ false) (a : Shape) (ea : a ≡ shape_of x.head.edition (rest_at s p)) where
    pub first_held : (y : Bool) → y ≡ stands_first (events_in s x at) a → FirstTold s p x at y
    first_held y ey =
        let e : y ≡ stands_first (events_in s x at) (shape_of x.head.edition (rest_at s p)) = ey ∙ ap (stands_first (events_in s x at)) ea in
        record { is = e ∙ sym (and_holds _ _ (sym told.is ∙ not-false r h)); clean = λ t. told.clean (not-false r h) at (sym e ∙ t) }

    pub first_apart : (high : ℕ) → Lined (events_in s x at) high → high ≤ a.start → FirstTold s p x at true
    unfolding stands_first
    first_apart high l o = first_held true (sym (both_hold _ _ l.firsts (non_holds _ (l.clear a o))))

-- ---- where no event lies

overlap_past : (a b : Shape) → b.start + b.width ≤ a.start → overlap a b ≡ false
unfolding overlap
overlap_past a b h =
    false_of _
    (λ o.
    let v = and_both (ltb 0 a.width) _ o in
    let w = and_both (ltb 0 b.width) _ v.1 in
    let l : a.start < b.start + b.width = ltb-true _ _ (and_both (ltb a.start (b.start + b.width)) _ w.1).0 in
    omega (arith, l))

meets_past : (s : List ℕ) (edition p : ℕ) (a : Shape) → (shape_of 2 (rest_at s p)).start + (shape_of 2 (rest_at s p)).width ≤ a.start → meets a (event_at s edition p) ≡ false
unfolding meets
meets_past s edition p a h = any_one (λ (b : Access). overlap a b.shape) _ ∙ overlap_past a (shape_of edition (rest_at s p)) h

pub clear_start : (s : List ℕ) (edition n : ℕ) (at : List ℕ) (high : ℕ) → n ≡ 0 → Clear (events_on s edition n at) high
unfolding any
clear_start s edition n at high e = subst (λ (l : List Event). Clear l high) (events_none s edition n at e) (λ a h. refl)

pub clear_next : (s : List ℕ) (edition n p : ℕ) (at : List ℕ) (low high : ℕ) → Clear (events_on s edition n at) low → n < length at → low ≤ high
    → (shape_of 2 (rest_at s p)).start + (shape_of 2 (rest_at s p)).width ≤ high → Clear (events_on s edition (n + 1) (set at n p)) high
clear_next s edition n p at low high c l g h =
    subst (λ (m : List Event). Clear m high) (sym (events_more s edition at n p l))
    (λ a o. any_snoc (meets a) (events_on s edition n at) (event_at s edition p) ∙ or_fails _ _ (c a (omega arith)) ∙ meets_past s edition p a (omega arith))

pub lined_of : (s : List ℕ) (h : Head) (n p last : ℕ) (at : List ℕ) → Between s p last (behind h n n p) at → (high : ℕ) → Clear (events_in s (behind h n n p) at) high
    → Lined (events_in s (behind h n n p) at) high
unfolding inits
lined_of s h n p last at b high c =
    record {
      firsts = all_number is_init (events_in s (behind h n n p) at) ∙ eq-eqb _ _ (sym b.inits ∙ sym (events_count s h.edition n at (counted_of s p last (behind h n n p) at b).room));
      clear = c;
    }
