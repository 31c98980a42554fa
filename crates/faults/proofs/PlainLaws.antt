-- Fields that pass every test, from the tests of the code. Assumes nothing.
--     head_told                a head; as the code tests it: head_same, head_not, head_all
--     init_told                an init; as the code tests it: init_short, init_all
--     other_told               an event that is no init, by edition 2's layout and, there, its tear byte; as the code tests it: other_short, other_all
use Prim.Native.Nat.{ℕ, ◌+◌, ◌-◌, ◌≤◌, ◌<◌}
use mathlib.Core.Path.{◌≡◌, refl, sym, ap, ◌∙◌, subst}
use mathlib.Core.Bool.{Bool, true, false, cond, not, ◌&&◌, ◌||◌}
use mathlib.Core.List.{List}
use Rattle.std.specs.Prelude.{Result, is_ok}
use mathlib.Core.Logic.{◌⊎◌, inl, inr}
use native.Mathlib.Omega.{arith}
use borrow.Author.Tests.{eqb-true, eq-eqb, ne_eqb, le-ltb, lt-ltb, leb-true, ltb-true, ltb-false, le-leb, lt-leb, not-true, not-false}
use lib.Dec.{eqb, ltb, leb}
use lib.ListN.{length, length-take, length-drop}
use Rattle.basis.specs.Test.{◌and◌, ◌or◌, non}
use Rattle.basis.proofs.BoolLaws.{and_both, and_holds, and_fails, or_either, both_hold, or_holds, or_fails, or_second, non_holds, non_fails}
use Rattle.format.specs.declared.Shape.{Shape}
use Rattle.format.specs.Shape.{tear_of, initial, sc}
use Rattle.format.specs.Limits.{max_inits, max_others}
use Rattle.format.specs.Field.{tag_at, length_at, next_at, value_at, rest_at}
use Rattle.format.specs.Layout.{event_bytes, data_bytes, tear_by, agent_of, shape_of}
use Rattle.format.proofs.LayoutLaws.{event_low, agent_front, shape_front}
use Rattle.content.specs.Content.{within, inside, sized, kind_fits, init_formed, other_formed, formed, tear_fits, alone, stands_first, event_fits, room_in}
use Rattle.content.proofs.ContentLaws.{within_elim, tear_holds, rule_fits}
use Rattle.parse.specs.Parse.{allowed, head_fault, event_fault_by, value_fault_by, fault_by}
use Rattle.parse.proofs.FormedLaws.{passed, passed_non}
use Rattle.entries.specs.declared.Counts.{Counts}
use Rattle.entries.specs.Entries.{events_in}
use Rattle.faults.specs.declared.Fault.{Fault}
use Rattle.faults.specs.Number.{told}
use Rattle.faults.proofs.NumberLaws.{none_told}
use Rattle.faults.specs.Faults.{room_by, front_bytes, PlainHead, PlainEvent, head_test, ends_test, init_test, other_test, tear_test, HeadTold, InitTold, OtherTold}

-- a value that ends within the sheet is as long as its field says
value_long : (s : List ℕ) (p : ℕ) → next_at s p ≤ length s → length (value_at s p) ≡ length_at s p
unfolding value_at
value_long s p h = simp (length-take, length-drop) (omega arith)

head_plain : (s : List ℕ) → next_at s 0 ≤ length s → tag_at s 0 ≡ 1 → head_fault (value_at s 0) ≡ 0 → PlainHead s
unfolding fault_by value_fault_by allowed
head_plain s h e f =
    record {
      tag = e;
      clean = λ x at. passed _ _ _ (le-ltb (length s) 3 (omega arith)) (passed_non _ _ _ (simp e) (passed _ _ _ (le-ltb (length s) (next_at s 0) h) (simp (e, f))));
    }

-- 0 is no sc mode
not_sc : (m : ℕ) → m ≡ 0 → m ≡ 2 → ⊥
not_sc m e f = omega arith

-- a mode of 1 or 2
later : (m : ℕ) → (eqb m 1 ≡ true) ⊎ (eqb m 2 ≡ true) → eqb m 0 ≡ false
later m (inl e) = let q = eqb-true m 1 e in ne_eqb m 0 (λ (z : m ≡ 0). omega arith)
later m (inr e) = let q = eqb-true m 2 e in ne_eqb m 0 (λ (z : m ≡ 0). omega arith)

later_formed : (agents agent : ℕ) (a : Shape) → (eqb a.mode 1 ≡ true) ⊎ (eqb a.mode 2 ≡ true) → other_formed agents agent a ≡ true
    → formed agents agent a ≡ true
unfolding formed
later_formed agents agent a (inl e) o = rw (later a.mode (inl e), e) o
later_formed agents agent a (inr e) o =
    let q = eqb-true a.mode 2 e in
    let z : eqb a.mode 1 ≡ false = ne_eqb a.mode 1 (λ (u : a.mode ≡ 1). omega arith) in
    rw (later a.mode (inr e), z, e) o

module _ (s : List ℕ) (p : ℕ) (x : Counts) (at : List ℕ) (reach : next_at s p ≤ length s) where
  abbrev ed : ℕ
  ed = x.head.edition

  abbrev a : Shape
  a = shape_of ed (rest_at s p)

  module _ (long : length_at s p ≡ event_bytes ed + data_bytes a) where
    same_shape : shape_of ed (value_at s p) ≡ a
    unfolding value_at
    same_shape = shape_front ed (rest_at s p) (length_at s p) (omega arith)

    same_agent : agent_of (value_at s p) ≡ agent_of (rest_at s p)
    unfolding value_at
    same_agent = let l = event_low ed in agent_front ed (rest_at s p) (length_at s p) (omega arith)

    event_plain : p + front_bytes ≤ length s → tag_at s p ≡ 2 → event_fits x.head (events_in s x at) (agent_of (rest_at s p)) a ≡ true → room_by x (agent_of (rest_at s p)) ≡ true
        → PlainEvent s p x at (eqb (agent_of (rest_at s p)) 0)
    unfolding fault_by value_fault_by event_fault_by allowed
    event_plain front e fits room =
        record {
          front = front;
          tag = e;
          agent = ap (λ (n : ℕ). eqb n 0) same_agent;
          clean = λ last w. passed _ _ _ (le-ltb (length s) (p + 3) (omega arith)) (passed_non _ _ _ (simp (e, w)) (passed _ _ _ (le-ltb (length s) (next_at s p) reach) (simp e value)));
        }
      where
        value : event_fault_by (room_by x) x.head (events_in s x at) (value_at s p) ≡ 0
        value =
            let n = value_long s p reach in
            passed _ _ _ (le-ltb (length (value_at s p)) (event_bytes ed) (omega arith))
            (passed_non _ _ _ (rw (same_agent, same_shape) fits)
            (passed_non _ _ _ (eq-eqb _ _ (n ∙ long ∙ sym (ap (λ (b : Shape). event_bytes ed + data_bytes b) same_shape)))
            (passed_non _ _ _ (rw same_agent room) refl)))

  -- an event that is no init: its shape by edition 2's layout, but for the tear byte, is its shape
  abbrev b : Shape
  b = shape_of 2 (rest_at s p)

  abbrev by : ℕ
  by = agent_of (rest_at s p)

  tear_ruled : eqb ed 2 ≡ false → a.tear ≡ tear_of a.kind a.mode a.start a.width
  unfolding tear_by
  tear_ruled q = rw q refl

  tear_there : cond (eqb ed 2) (tear_fits b) true ≡ true → tear_fits a ≡ true
  tear_there h = go (eqb ed 2) refl
    where
      go : (c : Bool) → eqb ed 2 ≡ c → tear_fits a ≡ true
      go true q = let e : ed ≡ 2 = eqb-true _ _ q in rw e (rw q at h)
      go false q = rule_fits a (tear_ruled q)

  other_agent : (inside x.head.size b and ((eqb b.mode 1 or eqb b.mode 2) and other_formed x.head.agents by b)) ≡ true → eqb by 0 ≡ false
  unfolding other_formed
  other_agent h =
      let v = and_both (inside x.head.size b) _ h in
      let w = and_both (eqb b.mode 1 or eqb b.mode 2) _ v.1 in
      let k = within_elim 1 x.head.agents by (and_both (within 1 x.head.agents by) _ w.1).0 in
      ne_eqb by 0 (λ (e : by ≡ 0). omega arith)

  other_fits : (inside x.head.size b and ((eqb b.mode 1 or eqb b.mode 2) and other_formed x.head.agents by b)) ≡ true
      → cond (eqb ed 2) (tear_fits b) true ≡ true → event_fits x.head (events_in s x at) by a ≡ true
  unfolding event_fits alone inside other_formed kind_fits sized sc initial
  other_fits h t =
      let v = and_both (inside x.head.size b) _ h in
      let w = and_both (eqb b.mode 1 or eqb b.mode 2) _ v.1 in
      let m = or_either (eqb b.mode 1) (eqb b.mode 2) w.0 in
      both_hold _ _ (both_hold _ _ v.0 (both_hold _ _ (later_formed x.head.agents by a m w.1) (tear_there t))) (or_holds _ _ (non_holds _ (later a.mode m)))

  other_room : eqb by 0 ≡ false → x.events < x.inits + max_others → room_by x by ≡ true
  unfolding room_in
  other_room e h = let l : x.events - x.inits < max_others = omega arith in rw e (lt-ltb (x.events - x.inits) max_others l)

  init_tear : b.mode ≡ 0 → (non (eqb ed 2) or eqb b.tear 0) ≡ true → tear_fits a ≡ true
  init_tear m h = go (eqb ed 2) refl
    where
      go : (c : Bool) → eqb ed 2 ≡ c → tear_fits a ≡ true
      go false q = rule_fits a (tear_ruled q)
      go true q =
          let e : ed ≡ 2 = eqb-true _ _ q in
          let t : b.tear ≡ 0 = eqb-true _ _ (sym (or_fails _ _ (non_fails _ q)) ∙ h) in
          rw e (tear_holds b (record { byte = omega (arith, t); must = λ n _. absurd (not_sc b.mode m n); none_else = λ _ _. t }))

  init_fits : (inside x.head.size b and (initial b and init_formed by b)) ≡ true → (non (eqb ed 2) or eqb b.tear 0) ≡ true
      → stands_first (events_in s x at) a ≡ true → event_fits x.head (events_in s x at) by a ≡ true
  unfolding event_fits alone inside initial formed init_formed
  init_fits h t f =
      let v = and_both (inside x.head.size b) _ h in
      let w = and_both (initial b) _ v.1 in
      both_hold _ _ (both_hold _ _ v.0 (both_hold _ _ (rw w.0 w.1) (init_tear (eqb-true _ _ w.0) t))) (or_second _ _ f)

  init_agent : (inside x.head.size b and (initial b and init_formed by b)) ≡ true → eqb by 0 ≡ true
  unfolding init_formed
  init_agent h = (and_both (eqb by 0) _ (and_both (initial b) _ (and_both (inside x.head.size b) _ h).1).1).0

  init_room : eqb by 0 ≡ true → x.inits < max_inits → room_by x by ≡ true
  unfolding room_in
  init_room e h = rw e (lt-ltb _ _ h)

-- from the tests of the code
module _ (s : List ℕ) (p : ℕ) (x : Counts) (at : List ℕ) (front : p + front_bytes ≤ length s) (e : eqb (tag_at s p) 2 ≡ true) where
  init_plain : (eqb (length_at s p) (event_bytes x.head.edition + data_bytes (shape_of 2 (rest_at s p))) and leb (next_at s p) (length s)) ≡ true
      → (inside x.head.size (shape_of 2 (rest_at s p)) and (initial (shape_of 2 (rest_at s p)) and init_formed (agent_of (rest_at s p)) (shape_of 2 (rest_at s p)))) ≡ true
      → (non (eqb x.head.edition 2) or eqb (shape_of 2 (rest_at s p)).tear 0) ≡ true → ltb x.inits max_inits ≡ true
      → stands_first (events_in s x at) (shape_of x.head.edition (rest_at s p)) ≡ true → PlainEvent s p x at true
  unfolding data_bytes
  init_plain h o t r f =
      let v = and_both (eqb (length_at s p) (event_bytes x.head.edition + data_bytes (shape_of 2 (rest_at s p)))) _ h in
      let l = leb-true (next_at s p) (length s) v.1 in
      let g = init_agent s p x at l o in
      subst (PlainEvent s p x at) g (event_plain s p x at l (eqb-true _ _ v.0) front (eqb-true _ _ e) (init_fits s p x at l o t f) (init_room s p x at l g (ltb-true _ _ r)))

  other_plain : (eqb (length_at s p) (event_bytes x.head.edition + data_bytes (shape_of 2 (rest_at s p))) and leb (next_at s p) (length s)) ≡ true
      → (inside x.head.size (shape_of 2 (rest_at s p)) and ((eqb (shape_of 2 (rest_at s p)).mode 1 or eqb (shape_of 2 (rest_at s p)).mode 2) and other_formed x.head.agents (agent_of (rest_at s p)) (shape_of 2 (rest_at s p)))) ≡ true
      → cond (eqb x.head.edition 2) (tear_fits (shape_of 2 (rest_at s p))) true ≡ true → ltb x.events (x.inits + max_others) ≡ true → PlainEvent s p x at false
  unfolding data_bytes
  other_plain h o t r =
      let v = and_both (eqb (length_at s p) (event_bytes x.head.edition + data_bytes (shape_of 2 (rest_at s p)))) _ h in
      let l = leb-true (next_at s p) (length s) v.1 in
      let g = other_agent s p x at l o in
      subst (PlainEvent s p x at) g (event_plain s p x at l (eqb-true _ _ v.0) front (eqb-true _ _ e) (other_fits s p x at l o t) (other_room s p x at l g (ltb-true _ _ r)))

-- ---- from the tests

head_told : (s : List ℕ) (r : Bool) → r ≡ head_test s → HeadTold s r
unfolding head_test
head_told s r e =
    record {
      is = e;
      clean = λ h.
          let v = and_both ((leb 3 (length s) and leb (next_at s 0) (length s)) and eqb (tag_at s 0) 1) (eqb (head_fault (value_at s 0)) 0) (sym e ∙ h) in
          let w = and_both (leb 3 (length s) and leb (next_at s 0) (length s)) (eqb (tag_at s 0) 1) v.0 in
          let u = and_both (leb 3 (length s)) (leb (next_at s 0) (length s)) w.0 in
          head_plain s (leb-true _ _ u.1) (eqb-true _ _ w.1) (eqb-true _ _ v.1);
    }

init_told : (s : List ℕ) (p : ℕ) (x : Counts) (r : Bool) → r ≡ init_test s p x → InitTold s p x r
unfolding init_test
init_told s p x r e =
    record {
      is = e;
      front = λ h. leb-true _ _ (and_both (leb (p + front_bytes) (length s)) _ (sym e ∙ h)).0;
      clean = λ h at f.
          let b = shape_of 2 (rest_at s p) in
          let o = inside x.head.size b and (initial b and init_formed (agent_of (rest_at s p)) b) in
          let v = and_both (leb (p + front_bytes) (length s)) _ (sym e ∙ h) in
          let u = and_both ((eqb (tag_at s p) 2 and ends_test s p x.head.edition b) and o) _ v.1 in
          let w = and_both (eqb (tag_at s p) 2 and ends_test s p x.head.edition b) o u.0 in
          let t = and_both (eqb (tag_at s p) 2) (ends_test s p x.head.edition b) w.0 in
          let m = and_both (non (eqb x.head.edition 2) or eqb b.tear 0) (ltb x.inits max_inits) u.1 in
          init_plain s p x at (leb-true _ _ v.0) t.0 t.1 w.1 m.0 m.1 f;
    }

other_told : (s : List ℕ) (p : ℕ) (x : Counts) (r : Bool) → r ≡ other_test s p x → OtherTold s p x r
unfolding other_test tear_test other_formed
other_told s p x r e =
    record {
      is = e;
      front = λ h. leb-true _ _ (and_both (leb (p + front_bytes) (length s)) _ (sym e ∙ h)).0;
      fits = λ h.
          let b = shape_of 2 (rest_at s p) in
          let v = and_both (leb (p + front_bytes) (length s)) _ (sym e ∙ h) in
          let w = and_both (eqb (tag_at s p) 2 and ends_test s p x.head.edition b) _ v.1 in
          let o = (and_both (inside x.head.size b and ((eqb b.mode 1 or eqb b.mode 2) and (within 1 x.head.agents (agent_of (rest_at s p)) and kind_fits b))) _ w.1).0 in
          let m = and_both (eqb b.mode 1 or eqb b.mode 2) _ (and_both (inside x.head.size b) _ o).1 in
          both_hold _ _ m.0 (and_both (within 1 x.head.agents (agent_of (rest_at s p))) (kind_fits b) m.1).1;
      clean = λ h f at.
          let b = shape_of 2 (rest_at s p) in
          let v = and_both (leb (p + front_bytes) (length s)) _ (sym e ∙ h) in
          let w = and_both (eqb (tag_at s p) 2 and ends_test s p x.head.edition b) _ v.1 in
          let t = and_both (eqb (tag_at s p) 2) (ends_test s p x.head.edition b) w.0 in
          let m = and_both (inside x.head.size b and ((eqb b.mode 1 or eqb b.mode 2) and other_formed x.head.agents (agent_of (rest_at s p)) b)) (ltb x.events (x.inits + max_others)) w.1 in
          other_plain s p x at (leb-true _ _ v.0) t.0 t.1 m.0 f m.1;
    }

-- ---- the tests as the code makes them, up to one that fails, or all

-- a place within the sheet, by the code's test that it is beyond
in_sheet : (n p : ℕ) → ltb n p ≡ false → leb p n ≡ true
in_sheet n p h = le-leb p n (ltb-false n p h)

not_in : (n p : ℕ) → ltb n p ≡ true → leb p n ≡ false
not_in n p h = lt-leb p n (ltb-true n p h)

pub head_same : (s : List ℕ) (n t : ℕ) → n ≡ length_at s 0 → t ≡ tag_at s 0
    → ((leb 3 (length s) && leb (3 + n) (length s)) && eqb t 1) ≡ ((leb 3 (length s) and leb (next_at s 0) (length s)) and eqb (tag_at s 0) 1)
unfolding ◌and◌
head_same s n t e f = rw (e, f) refl

module _ (s : List ℕ) (b : Bool) (e : b ≡ ((leb 3 (length s) and leb (next_at s 0) (length s)) and eqb (tag_at s 0) 1)) where
  pub head_not : not b ≡ true → HeadTold s false
  unfolding head_test
  head_not h = head_told s false (sym (and_fails _ _ (sym e ∙ not-true b h)))

  pub head_all : not b ≡ false → (r : Result (Unit {0}) Fault) → told r ≡ head_fault (value_at s 0) → HeadTold s (is_ok r)
  unfolding head_test
  head_all h r f = head_told s (is_ok r) (none_told r ∙ ap (λ (m : ℕ). eqb m 0) f ∙ sym (and_holds _ _ (sym e ∙ not-false b h)))

module _ (s : List ℕ) (p : ℕ) (x : Counts) where
  pub init_short : ltb (length s) (p + front_bytes) ≡ true → InitTold s p x false
  unfolding init_test
  init_short h = init_told s p x false (sym (and_fails _ _ (not_in (length s) (p + front_bytes) h)))

  pub init_all : ltb (length s) (p + front_bytes) ≡ false → (a : Shape) → a ≡ shape_of 2 (rest_at s p) → (g t : ℕ) → g ≡ agent_of (rest_at s p) → t ≡ tag_at s p → (c o : Bool)
      → c ≡ ends_test s p x.head.edition a → o ≡ (inside x.head.size a and (initial a and init_formed g a))
      → InitTold s p x (((eqb t 2 && c) && o) && ((not (eqb x.head.edition 2) || eqb a.tear 0) && ltb x.inits max_inits))
  unfolding init_test ◌and◌ ◌or◌ non
  init_all l a ea g t eg et c o ec eo = init_told s p x _ (rw (et, ec, eo, eg, ea) (sym (and_holds _ _ (in_sheet (length s) (p + front_bytes) l))))

module _ (s : List ℕ) (p : ℕ) (x : Counts) where
  pub other_short : ltb (length s) (p + front_bytes) ≡ true → OtherTold s p x false
  unfolding other_test
  other_short h = other_told s p x false (sym (and_fails _ _ (not_in (length s) (p + front_bytes) h)))

  pub other_all : ltb (length s) (p + front_bytes) ≡ false → (a : Shape) → a ≡ shape_of 2 (rest_at s p) → (g t : ℕ) → g ≡ agent_of (rest_at s p) → t ≡ tag_at s p → (c o : Bool)
      → c ≡ ends_test s p x.head.edition a → o ≡ (inside x.head.size a and ((eqb a.mode 1 or eqb a.mode 2) and other_formed x.head.agents g a))
      → OtherTold s p x ((eqb t 2 && c) && (o && ltb x.events (x.inits + max_others)))
  unfolding other_test ◌and◌
  other_all l a ea g t eg et c o ec eo = other_told s p x _ (rw (et, ec, eo, eg, ea) (sym (and_holds _ _ (in_sheet (length s) (p + front_bytes) l))))
