-- What an event's value without a fault is: specs/Promise.antt's `WellEvent`. Assumes nothing.
--     seen_length, written_length   the data is as long as it has to be
--     well_event                    what it describes
--     stands_first_lem                  an init among the events before it
use mathlib.Core.Path.{◌≡◌, refl}
use mathlib.Core.Logic.{◌⊎◌, inl, inr}
use mathlib.Core.Bool.{Bool, true, false, cond}
use mathlib.Core.List.{List, []}
use Prim.Native.Nat.{ℕ, ◌+◌, ◌≤◌}
use native.Mathlib.Omega.{arith}
use borrow.Author.Tests.{eqb-true, eqb-false, ne_eqb, leb-true}
use lib.Dec.{T, eqb}
use lib.ListN.{length, take, drop, length-take, length-drop}
use Rattle.basis.specs.Test.{◌and◌, ◌or◌, non, any, all}
use Rattle.basis.proofs.BoolLaws.{T_true, and_both, or_either, non_true}
use Rattle.format.specs.declared.Head.{Head}
use Rattle.format.specs.declared.Shape.{Shape}
use Rattle.format.specs.Shape.{reads, writes, initial, tear_of}
use Rattle.format.specs.Event.{Event, is_init, meets}
use Rattle.format.specs.Layout.{event_bytes, tear_by, data_bytes, agent_of, shape_of, seen_of, written_of, access_of, event_of}
use Rattle.content.specs.Content.{inside, formed, tear_fits, alone, stands_first, event_fits}
use Rattle.content.proofs.ContentLaws.{SizedFacts, KindFacts, a_read, a_write, both, a_marker, InitFacts, OtherFacts, TearFacts, formed_cases, tear_facts}
use Rattle.parse.specs.Parse.{event_fault}
use Rattle.parse.specs.Promise.{WellEvent}
use Rattle.parse.proofs.ParseLaws.{event_passed}

-- ---- the data

module _ (edition : ℕ) (v : List ℕ) (long : length v ≡ event_bytes edition + data_bytes (shape_of edition v)) where
  seen_length : length (seen_of edition v) ≡ cond (reads (shape_of edition v)) (shape_of edition v).width 0
  unfolding seen_of data_bytes
  seen_length = go (eqb (shape_of edition v).kind 3) refl (reads (shape_of edition v)) refl
    where
      go : (b : Bool) → eqb (shape_of edition v).kind 3 ≡ b → (c : Bool) → reads (shape_of edition v) ≡ c
          → length (cond (reads (shape_of edition v)) (take (shape_of edition v).width (drop (event_bytes edition) v)) []) ≡ cond (reads (shape_of edition v)) (shape_of edition v).width 0
      go b p false q = rw q
      go true p true q =
          let l : length v ≡ event_bytes edition + ((shape_of edition v).width + (shape_of edition v).width) = rw p at long in
          rw q (simp (length-take, length-drop) (omega arith))
      go false p true q = let l : length v ≡ event_bytes edition + (shape_of edition v).width = rw p at long in rw q (simp (length-take, length-drop) (omega arith))

  written_length : length (written_of edition v) ≡ cond (writes (shape_of edition v)) (shape_of edition v).width 0
  unfolding written_of data_bytes writes ◌or◌
  written_length = go (eqb (shape_of edition v).kind 2) refl (eqb (shape_of edition v).kind 3) refl
    where
      go : (b : Bool) → eqb (shape_of edition v).kind 2 ≡ b → (c : Bool) → eqb (shape_of edition v).kind 3 ≡ c
          → length (cond (eqb (shape_of edition v).kind 2) (take (shape_of edition v).width (drop (event_bytes edition) v)) (cond (eqb (shape_of edition v).kind 3) (take (shape_of edition v).width (drop (event_bytes edition + (shape_of edition v).width) v)) []))
          ≡ cond (eqb (shape_of edition v).kind 2 or eqb (shape_of edition v).kind 3) (shape_of edition v).width 0
      go true p true q = absurd (let e = eqb-true (shape_of edition v).kind 2 p in let f = eqb-true (shape_of edition v).kind 3 q in omega arith)
      go true p false q = let l : length v ≡ event_bytes edition + (shape_of edition v).width = rw q at long in simp (p, q, length-take, length-drop) (omega arith)
      go false p true q =
          let l : length v ≡ event_bytes edition + ((shape_of edition v).width + (shape_of edition v).width) = rw q at long in simp (p, q, length-take, length-drop) (omega arith)
      go false p false q = simp (p, q)

-- ---- an event

module _ (h : Head) (events : List Event) (v : List ℕ) (e : event_fault h events v ≡ 0) where
  abbrev a : Shape
  a = shape_of h.edition v

  -- the tests of its content, apart
  record Passed : Type 0 where
    inside : inside h.size a ≡ true
    formed : formed h.agents (agent_of v) a ≡ true
    tear : tear_fits a ≡ true
    first : (non (initial a) or stands_first events a) ≡ true

  fits : Passed
  unfolding event_fits alone
  fits =
      let w = and_both (inside h.size a and formed h.agents (agent_of v) a and tear_fits a) _ (event_passed h events v e).fits in
      let u = and_both (inside h.size a) _ w.0 in
      let t = and_both (formed h.agents (agent_of v) a) _ u.1 in
      record { inside = u.0; formed = t.0; tear = t.1; first = w.1 }

  cases : InitFacts (agent_of v) a ⊎ OtherFacts h.agents (agent_of v) a
  cases = formed_cases h.agents (agent_of v) a fits.formed

  within_memory : a.start + a.width ≤ h.size
  unfolding inside
  within_memory = leb-true _ _ fits.inside

  tears : TearFacts a
  tears = tear_facts a fits.tear

  by_rule : (h.edition ≡ 2 → ⊥) → a.tear ≡ tear_of a.kind a.mode a.start a.width
  unfolding tear_by
  by_rule n = simp (ne_eqb h.edition 2 n)

  pub well_event : WellEvent h (event_of h.edition v)
  well_event =
      let l = (event_passed h events v e).length in
      go cases (seen_length h.edition v l) (written_length h.edition v l)
    where
      four : KindFacts a → (1 ≤ a.kind) × (a.kind ≤ 4)
      four (a_read k z) = (omega arith, omega arith)
      four (a_write k z) = (omega arith, omega arith)
      four (both k m z) = (omega arith, omega arith)
      four (a_marker k m) = (omega arith, omega arith)

      sc_both : KindFacts a → a.kind ≡ 3 → a.mode ≡ 2
      sc_both (a_read k z) q = absurd (omega arith)
      sc_both (a_write k z) q = absurd (omega arith)
      sc_both (both k m z) q = m
      sc_both (a_marker k m) q = m.mode

      size_of : KindFacts a → (a.kind ≡ 4 → ⊥) → SizedFacts a
      size_of (a_read k z) q = z
      size_of (a_write k z) q = z
      size_of (both k m z) q = z
      size_of (a_marker k m) q = absurd (q k)

      mark : KindFacts a → a.kind ≡ 4 → (a.mode ≡ 2) × (a.start ≡ 0) × (a.width ≡ 0)
      mark (a_read k z) q = absurd (omega arith)
      mark (a_write k z) q = absurd (omega arith)
      mark (both k m z) q = absurd (omega arith)
      mark (a_marker k m) q = (m.mode, m.start, m.width)

      modes : (a.mode ≡ 1) ⊎ (a.mode ≡ 2) → (a.mode ≤ 2) × (a.mode ≡ 0 → ⊥)
      modes (inl m) = (omega arith, λ z. omega arith)
      modes (inr m) = (omega arith, λ z. omega arith)

      go : InitFacts (agent_of v) a ⊎ OtherFacts h.agents (agent_of v) a
          → length (seen_of h.edition v) ≡ cond (reads a) a.width 0 → length (written_of h.edition v) ≡ cond (writes a) a.width 0
          → WellEvent h (event_of h.edition v)
      go (inl i) s w =
          let k = i.kind in let m = i.mode in let g = i.agent in
          record {
            access = access_of h.edition v;
            one_access = refl;
            init_agent = ((λ _. g), (λ _. m));
            init_kind = λ _. k;
            init_width = λ _. i.width;
            agent = omega arith;
            kind = (omega arith, omega arith);
            mode = omega arith;
            both_sc_lem = λ q. absurd (omega arith);
            width = λ q r. absurd (q m);
            aligned = λ q r. absurd (omega arith);
            marker = λ q. absurd (omega arith);
            inside = within_memory;
            seen = s;
            written = w;
            tear = tears.byte;
            tear_sc = tears.must;
            tear_else = tears.none_else;
            tear_rule = by_rule;
          }
      go (inr o) s w =
          let n = modes o.mode in let g = o.agent in
          record {
            access = access_of h.edition v;
            one_access = refl;
            init_agent = ((λ z. absurd (n.1 z)), (λ z. absurd (omega arith)));
            init_kind = λ z. absurd (n.1 z);
            init_width = λ z. absurd (n.1 z);
            agent = g.1;
            kind = four o.kind;
            mode = n.0;
            both_sc_lem = sc_both o.kind;
            width = λ z q. (size_of o.kind q).width;
            aligned = λ m q. (size_of o.kind q).aligned m;
            marker = mark o.kind;
            inside = within_memory;
            seen = s;
            written = w;
            tear = tears.byte;
            tear_sc = tears.must;
            tear_else = tears.none_else;
            tear_rule = by_rule;
          }

  -- an init stands behind inits alone, and overlaps none
  pub stands_first_lem : T (is_init (event_of h.edition v)) → (all is_init events ≡ true) × (any (meets a) events ≡ false)
  unfolding is_init stands_first initial
  stands_first_lem t = go cases (or_either (non (initial a)) (stands_first events a) fits.first)
    where
      m : InitFacts (agent_of v) a ⊎ OtherFacts h.agents (agent_of v) a → a.mode ≡ 0
      m (inl i) = i.mode
      m (inr o) = absurd (let z = eqb-true (agent_of v) 0 (T_true _ t) in let g = o.agent in omega arith)

      go : InitFacts (agent_of v) a ⊎ OtherFacts h.agents (agent_of v) a → (non (initial a) ≡ true) ⊎ (stands_first events a ≡ true)
          → (all is_init events ≡ true) × (any (meets a) events ≡ false)
      go f (inl p) = absurd (eqb-false a.mode 0 (non_true (initial a) p) (m f))
      go f (inr p) = let w = and_both (all is_init events) (non (any (meets a) events)) p in (w.0, non_true _ w.1)
