-- The laws of specs/Content.antt: a test that passed, as the facts that 01's sentence names. Assumes nothing.
--     within_elim, within_holds, not_within     a number between two
--     room_init, room_other         room for an init, for another event
--     SizedFacts, KindFacts, InitFacts, OtherFacts, kind_facts     what a shape that fits is
--     formed_cases, formed_holds    a shape that is formed is an init's, or another's; and back
--     TearFacts, tear_facts, tear_holds     a tear byte that fits, both ways       rule_fits     what 01's rule gives fits
--     HeadFacts, head_facts, head_holds     a head that fits, both ways
--     joined, parted                a row; a pair
use mathlib.Core.Path.{◌≡◌, refl, sym, ap, ◌∙◌}
use mathlib.Core.Logic.{◌⊎◌, inl, inr, ⊎_elim}
use mathlib.Core.Bool.{Bool, true, false, cond, false≢true}
use mathlib.Core.List.{List}
use Prim.Native.Nat.{ℕ, ◌<◌, ◌≤◌}
use native.Mathlib.Omega.{arith}
use borrow.Author.Tests.{eqb-true, eqb-false, eq-eqb, ne_eqb, leb-true, leb-false, ltb-true, le-leb}
use lib.Dec.{T, eqb, leb}
use Rattle.basis.specs.Test.{◌and◌, ◌or◌, non}
use Rattle.basis.proofs.BoolLaws.{true_T, T_true, and_both, or_either, or_holds, or_second, cond_cases, non_true, non_holds, both_hold}
use Rattle.format.specs.declared.Head.{Head}
use Rattle.format.specs.declared.Shape.{Shape}
use Rattle.format.specs.declared.Row.{Row}
use Rattle.format.specs.declared.Pair.{Pair}
use Rattle.format.specs.Limits.{max_edition, max_agents, max_memory, max_inits, max_others}
use Rattle.format.specs.Shape.{marks, unordered, sc, divides, unbroken, tear_of}
use Rattle.format.specs.Event.{Event, reads_at, writes_at, is_marker}
use Rattle.format.specs.Execution.{event_no}
use Rattle.content.specs.Content.{within, head_fits, init_formed, sized, kind_fits, other_formed, formed, tear_fits, room_in, joins, parts}

-- a number between two
pub within_elim : (lo hi n : ℕ) → within lo hi n ≡ true → (lo ≤ n) × (n ≤ hi)
unfolding within
within_elim lo hi n h = let w = and_both (leb lo n) (leb n hi) h in (leb-true _ _ w.0, leb-true _ _ w.1)

pub within_holds : (lo hi n : ℕ) → lo ≤ n → n ≤ hi → within lo hi n ≡ true
unfolding within
within_holds lo hi n a b = both_hold (leb lo n) (leb n hi) (le-leb lo n a) (le-leb n hi b)

pub not_within : (lo hi n : ℕ) → within lo hi n ≡ false → lo ≤ n → hi < n
unfolding within
not_within lo hi n e h = go (leb n hi) refl
  where
    go : (b : Bool) → leb n hi ≡ b → hi < n
    go false q = leb-false n hi q
    go true q = absurd (false≢true (sym e ∙ both_hold (leb lo n) (leb n hi) (le-leb lo n h) q))

-- room for one more
pub room_init : (i o agent : ℕ) → room_in i o agent ≡ true → eqb agent 0 ≡ true → i < max_inits
unfolding room_in
room_init i o agent r e = ltb-true _ _ (rw e at r)

pub room_other : (i o agent : ℕ) → room_in i o agent ≡ true → eqb agent 0 ≡ false → o < max_others
unfolding room_in
room_other i o agent r e = ltb-true _ _ (rw e at r)

-- 01: "widths 1, 2, 4, 8, and in mode 2 a start divisible by the width"
pub record SizedFacts (a : Shape) : Type 0 where
  pub width : (a.width ≡ 1) ⊎ (a.width ≡ 2) ⊎ (a.width ≡ 4) ⊎ (a.width ≡ 8)
  pub aligned : a.mode ≡ 2 → T (divides a.width a.start)

sized_facts : (a : Shape) → sized a ≡ true → SizedFacts a
unfolding sized sc non ◌or◌
sized_facts a h =
    let w = and_both (eqb a.width 1 or eqb a.width 2 or eqb a.width 4 or eqb a.width 8) _ h in
    record {
      width = ⊎_elim (λ p. inl (eqb-true _ _ p)) (λ q. inr (⊎_elim (λ p. inl (eqb-true _ _ p)) (λ r. inr (⊎_elim (λ p. inl (eqb-true _ _ p)) (λ t. inr (eqb-true _ _ t)) (or_either (eqb a.width 4) _ r))) (or_either (eqb a.width 2) _ q))) (or_either (eqb a.width 1) _ w.0);
      aligned = λ m. ⊎_elim (λ (p : non (eqb a.mode 2) ≡ true). absurd (eqb-false _ _ (non_true (eqb a.mode 2) p) m)) (λ p. true_T _ p) (or_either (non (eqb a.mode 2)) _ w.1);
    }

sized_holds : (a : Shape) → SizedFacts a → sized a ≡ true
unfolding sized sc
sized_holds a f = both_hold _ _ (listed a.width f.width) (go (eqb a.mode 2) refl)
  where
    listed : (w : ℕ) → (w ≡ 1) ⊎ (w ≡ 2) ⊎ (w ≡ 4) ⊎ (w ≡ 8) → (eqb w 1 or eqb w 2 or eqb w 4 or eqb w 8) ≡ true
    listed w (inl e) = or_holds (eqb w 1) _ (eq-eqb _ _ e)
    listed w (inr (inl e)) = or_second (eqb w 1) _ (or_holds (eqb w 2) _ (eq-eqb _ _ e))
    listed w (inr (inr (inl e))) = or_second (eqb w 1) _ (or_second (eqb w 2) _ (or_holds (eqb w 4) _ (eq-eqb _ _ e)))
    listed w (inr (inr (inr e))) = or_second (eqb w 1) _ (or_second (eqb w 2) _ (or_second (eqb w 4) _ (eq-eqb _ _ e)))

    go : (b : Bool) → eqb a.mode 2 ≡ b → (non (eqb a.mode 2) or divides a.width a.start) ≡ true
    go true p = or_second (non (eqb a.mode 2)) _ (T_true _ (f.aligned (eqb-true _ _ p)))
    go false p = or_holds (non (eqb a.mode 2)) _ (non_holds _ p)

pub record MarkerFacts (a : Shape) : Type 0 where
  pub mode : a.mode ≡ 2
  pub start : a.start ≡ 0
  pub width : a.width ≡ 0

-- by its kind
pub data KindFacts (a : Shape) : Type 0 where
  a_read : a.kind ≡ 1 → SizedFacts a → KindFacts a
  a_write : a.kind ≡ 2 → SizedFacts a → KindFacts a
  both : a.kind ≡ 3 → a.mode ≡ 2 → SizedFacts a → KindFacts a
  a_marker : a.kind ≡ 4 → MarkerFacts a → KindFacts a

pub kind_facts : (a : Shape) → kind_fits a ≡ true → KindFacts a
unfolding kind_fits sc
kind_facts a h =
    ⊎_elim (λ p. a_read (eqb-true _ _ p.0) (sized_facts a p.1))
    (λ q. ⊎_elim (λ p. a_write (eqb-true _ _ p.0) (sized_facts a p.1))
    (λ r. ⊎_elim (λ p. let w = and_both (eqb a.mode 2) (sized a) p.1 in both (eqb-true _ _ p.0) (eqb-true _ _ w.0) (sized_facts a w.1))
    (λ t. ⊎_elim
    (λ p. let w = and_both (eqb a.mode 2) _ p.1 in let v = and_both (eqb a.start 0) _ w.1 in
    a_marker (eqb-true _ _ p.0) (record { mode = eqb-true _ _ w.0; start = eqb-true _ _ v.0; width = eqb-true _ _ v.1 }))
    (λ p. absurd (false≢true p.1))
    (cond_cases (eqb a.kind 4) _ _ t.1))
    (cond_cases (eqb a.kind 3) _ _ r.1))
    (cond_cases (eqb a.kind 2) _ _ q.1))
    (cond_cases (eqb a.kind 1) _ _ h)

kind_holds : (a : Shape) → KindFacts a → kind_fits a ≡ true
unfolding kind_fits sc
kind_holds a (a_read e f) = let z = sized_holds a f in simp (e, z)
kind_holds a (a_write e f) = let z = sized_holds a f in simp (e, z)
kind_holds a (both e m f) = let z = both_hold (eqb a.mode 2) (sized a) (eq-eqb _ _ m) (sized_holds a f) in simp (e, z)
kind_holds a (a_marker e f) =
    let z = both_hold (eqb a.mode 2) _ (eq-eqb _ _ f.mode) (both_hold (eqb a.start 0) (eqb a.width 0) (eq-eqb _ _ f.start) (eq-eqb _ _ f.width)) in
    simp (e, z)

pub record InitFacts (by : ℕ) (a : Shape) : Type 0 where
  pub mode : a.mode ≡ 0
  pub agent : by ≡ 0
  pub kind : a.kind ≡ 2
  pub width : (1 ≤ a.width) × (a.width ≤ max_memory)

pub record OtherFacts (agents by : ℕ) (a : Shape) : Type 0 where
  pub mode : (a.mode ≡ 1) ⊎ (a.mode ≡ 2)
  pub agent : (1 ≤ by) × (by ≤ agents)
  pub kind : KindFacts a

other_facts : (agents agent : ℕ) (a : Shape) → other_formed agents agent a ≡ true → (a.mode ≡ 1) ⊎ (a.mode ≡ 2) → OtherFacts agents agent a
unfolding other_formed
other_facts agents agent a h m =
    let w = and_both (within 1 agents agent) (kind_fits a) h in record { mode = m; agent = within_elim 1 agents agent w.0; kind = kind_facts a w.1 }

init_facts : (agent : ℕ) (a : Shape) → init_formed agent a ≡ true → a.mode ≡ 0 → InitFacts agent a
unfolding init_formed
init_facts agent a h m =
    let w = and_both (eqb agent 0) _ h in
    let v = and_both (eqb a.kind 2) (within 1 max_memory a.width) w.1 in
    record { mode = m; agent = eqb-true _ _ w.0; kind = eqb-true _ _ v.0; width = within_elim 1 max_memory a.width v.1 }

-- a shape that is formed is an init's, or another's
pub formed_cases : (agents agent : ℕ) (a : Shape) → formed agents agent a ≡ true → InitFacts agent a ⊎ OtherFacts agents agent a
unfolding formed
formed_cases agents agent a h =
    ⊎_elim (λ p. inl (init_facts agent a p.1 (eqb-true _ _ p.0)))
    (λ q. ⊎_elim (λ p. inr (other_facts agents agent a p.1 (inl (eqb-true _ _ p.0))))
    (λ r. ⊎_elim (λ p. inr (other_facts agents agent a p.1 (inr (eqb-true _ _ p.0)))) (λ p. absurd (false≢true p.1))
    (cond_cases (eqb a.mode 2) _ _ r.1))
    (cond_cases (eqb a.mode 1) _ _ q.1))
    (cond_cases (eqb a.mode 0) _ _ h)

-- the converse: what 01's sentences say makes the tests pass
pub formed_holds : (agents agent : ℕ) (a : Shape) → InitFacts agent a ⊎ OtherFacts agents agent a → formed agents agent a ≡ true
unfolding formed init_formed other_formed
formed_holds agents agent a (inl f) =
    let z =
    both_hold (eqb agent 0) _ (eq-eqb _ _ f.agent)
    (both_hold (eqb a.kind 2) (within 1 max_memory a.width) (eq-eqb _ _ f.kind) (within_holds 1 max_memory a.width f.width.0 f.width.1)) in
    simp (f.mode, z)
formed_holds agents agent a (inr f) = go f.mode
  where
    z : (within 1 agents agent and kind_fits a) ≡ true
    z = both_hold (within 1 agents agent) (kind_fits a) (within_holds 1 agents agent f.agent.0 f.agent.1) (kind_holds a f.kind)

    go : (a.mode ≡ 1) ⊎ (a.mode ≡ 2) → formed agents agent a ≡ true
    go (inl m) = simp (m, z)
    go (inr m) = simp (m, z)

-- ---- the tear byte

-- 02 §4: "It must be 1 for sc reads, writes and read-modify-writes, free for unordered ones of width 1, 2 or 4 whose start is divisible by the width,
-- 0 for all else"
pub record TearFacts (a : Shape) : Type 0 where
  pub byte : a.tear ≤ 1
  pub must : a.mode ≡ 2 → (a.kind ≡ 4 → ⊥) → a.tear ≡ 1
  pub none_else : (a.mode ≡ 2 → a.kind ≡ 4) → (a.mode ≡ 1 → T (unbroken a.width a.start) → ⊥) → a.tear ≡ 0

-- by the tests for a marker, sc, unordered and unbroken
abbrev ruled : Bool → Bool → Bool → Bool → ℕ
ruled k m o u = cond (non k and (m or (o and u))) 1 0

by_rule : (k m o u : Bool) → cond (m and non k) (eqb (ruled k m o u) 1) (cond (o and u) (leb (ruled k m o u) 1) (eqb (ruled k m o u) 0)) ≡ true
unfolding ◌and◌ ◌or◌ non
by_rule false true o u = refl
by_rule true true true true = refl
by_rule true true true false = refl
by_rule true true false u = refl
by_rule true false true true = refl
by_rule true false true false = refl
by_rule true false false u = refl
by_rule false false true true = refl
by_rule false false true false = refl
by_rule false false false u = refl

module _ (a : Shape) where
  -- the two tests, as facts
  abbrev must_be : Bool
  must_be = sc a and non (marks a)

  abbrev may_be : Bool
  may_be = unordered a and unbroken a.width a.start

  must_true : must_be ≡ true → (a.mode ≡ 2) × (a.kind ≡ 4 → ⊥)
  unfolding sc marks
  must_true p = let w = and_both (eqb a.mode 2) _ p in (eqb-true _ _ w.0, eqb-false _ _ (non_true _ w.1))

  must_false : must_be ≡ false → a.mode ≡ 2 → (a.kind ≡ 4 → ⊥) → ⊥
  unfolding sc marks
  must_false p m k = false≢true (sym p ∙ both_hold (eqb a.mode 2) _ (eq-eqb _ _ m) (non_holds _ (ne_eqb _ _ k)))

  may_true : may_be ≡ true → (a.mode ≡ 1) × T (unbroken a.width a.start)
  unfolding unordered
  may_true p = let w = and_both (eqb a.mode 1) _ p in (eqb-true _ _ w.0, true_T _ w.1)

  may_false : may_be ≡ false → a.mode ≡ 1 → T (unbroken a.width a.start) → ⊥
  unfolding unordered
  may_false p m u = false≢true (sym p ∙ both_hold (eqb a.mode 1) _ (eq-eqb _ _ m) (T_true _ u))

  pub tear_facts : tear_fits a ≡ true → TearFacts a
  unfolding tear_fits
  tear_facts h = go must_be refl may_be refl
    where
      go : (b : Bool) → must_be ≡ b → (c : Bool) → may_be ≡ c → TearFacts a
      go true p c q =
          let t : a.tear ≡ 1 = eqb-true _ _ (rw p at h) in
          let w = must_true p in
          record { byte = omega arith; must = λ _ _. t; none_else = λ f _. absurd (w.1 (f w.0)) }
      go false p true q =
          let t : a.tear ≤ 1 = leb-true _ _ (rw (p, q) at h) in
          let w = may_true q in
          record { byte = t; must = λ m k. absurd (must_false p m k); none_else = λ _ g. absurd (g w.0 w.1) }
      go false p false q =
          let t : a.tear ≡ 0 = eqb-true _ _ (rw (p, q) at h) in
          record { byte = omega arith; must = λ m k. absurd (must_false p m k); none_else = λ _ _. t }

  pub tear_holds : TearFacts a → tear_fits a ≡ true
  unfolding tear_fits
  tear_holds f = go must_be refl may_be refl (eqb a.kind 4) refl
    where
      go : (b : Bool) → must_be ≡ b → (c : Bool) → may_be ≡ c → (d : Bool) → eqb a.kind 4 ≡ d → tear_fits a ≡ true
      go true p c q d r = let w = must_true p in rw p (eq-eqb _ _ (f.must w.0 w.1))
      go false p true q d r = rw (p, q) (le-leb _ _ f.byte)
      go false p false q true r = rw (p, q) (eq-eqb _ _ (f.none_else (λ _. eqb-true _ _ r) (may_false q)))
      go false p false q false r = rw (p, q) (eq-eqb _ _ (f.none_else (λ m. absurd (must_false p m (eqb-false _ _ r))) (may_false q)))

  -- at edition 1 the tear byte never fails
  pub rule_fits : a.tear ≡ tear_of a.kind a.mode a.start a.width → tear_fits a ≡ true
  unfolding tear_fits tear_of sc marks unordered
  rule_fits h =
      ap (λ (t : ℕ). cond must_be (eqb t 1) (cond may_be (leb t 1) (eqb t 0))) h ∙ by_rule (eqb a.kind 4) (eqb a.mode 2) (eqb a.mode 1) (unbroken a.width a.start)

-- 01: "edition (1), agents (1 to 8), memory size in bytes (1 to 64)"; 02 §4 adds edition 2
pub record HeadFacts (h : Head) : Type 0 where
  pub edition : (1 ≤ h.edition) × (h.edition ≤ max_edition)
  pub agents : (1 ≤ h.agents) × (h.agents ≤ max_agents)
  pub size : (1 ≤ h.size) × (h.size ≤ max_memory)

pub head_facts : (h : Head) → head_fits h ≡ true → HeadFacts h
unfolding head_fits
head_facts h f =
    let w = and_both (within 1 max_edition h.edition) _ f in
    let v = and_both (within 1 max_agents h.agents) (within 1 max_memory h.size) w.1 in
    record { edition = within_elim _ _ _ w.0; agents = within_elim _ _ _ v.0; size = within_elim _ _ _ v.1 }

pub head_holds : (h : Head) → HeadFacts h → head_fits h ≡ true
unfolding head_fits
head_holds h f =
    both_hold (within 1 max_edition h.edition) _ (within_holds 1 max_edition _ f.edition.0 f.edition.1)
    (both_hold (within 1 max_agents h.agents) (within 1 max_memory h.size) (within_holds 1 max_agents _ f.agents.0 f.agents.1) (within_holds 1 max_memory _ f.size.0 f.size.1))

-- ---- a row, a pair

pub record JoinedFacts (events : List Event) (r : Row) : Type 0 where
  pub reads : T (reads_at (event_no events r.reader) r.address)
  pub writes : T (writes_at (event_no events r.writer) r.address)
  pub differ : r.reader ≡ r.writer → ⊥

pub joined : (events : List Event) (r : Row) → joins events r ≡ true → JoinedFacts events r
unfolding joins
joined events r h =
    let w = and_both (reads_at (event_no events r.reader) r.address) _ h in
    let v = and_both (writes_at (event_no events r.writer) r.address) _ w.1 in
    record { reads = true_T _ w.0; writes = true_T _ v.0; differ = eqb-false _ _ (non_true _ v.1) }

pub record PartedFacts (events : List Event) (p : Pair) : Type 0 where
  pub first : T (is_marker (event_no events p.first))
  pub second : T (is_marker (event_no events p.second))
  pub agents : (event_no events p.first).agent ≡ (event_no events p.second).agent → ⊥

pub parted : (events : List Event) (p : Pair) → parts events p ≡ true → PartedFacts events p
unfolding parts
parted events p h =
    let w = and_both (is_marker (event_no events p.first)) _ h in
    let v = and_both (is_marker (event_no events p.second)) _ w.1 in
    record { first = true_T _ w.0; second = true_T _ v.0; agents = eqb-false _ _ (non_true _ v.1) }
