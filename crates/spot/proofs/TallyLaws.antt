-- The tally of the events so far, and what it tells at the end. Assumes nothing.
--     tallied_start, tally_next     of no event; behind one field more
--     tally_made, tally_any         with one event more, as the code makes it; by any edition
--     by_test, at_most              a number, or nothing
--     tear_number                   a test as a number: 01's rule for tear-free
--     tally_room                    room for one event's bytes more
--     told_some                     where bytes are read, some event reads
--     told_missing                  agents that the head promises and that have no event
--     told_none_lacking             as many rows as read bytes: no event lacks one
use Prim.Native.Nat.{ℕ, ◌+◌, ◌*◌, ◌%◌, ◌≤◌, ◌<◌, min}
use mathlib.Core.Path.{◌≡◌, refl, sym, ap, ◌∙◌, subst}
use mathlib.Core.Bool.{Bool, true, false, cond, not, ◌&&◌, false≢true}
use mathlib.Core.List.{List, [], ◌∷◌, ◌++◌}
use mathlib.Core.Option.{none}
use native.Mathlib.Omega.{arith}
use native.Mathlib.Nat.{one-mul, zero-mul}
use mir.Val.{bool_byte}
use borrow.Author.Tests.{eqb-true, eqb-false, ltb-false, ne_eqb}
use lib.Dec.{eqb, ltb}
use lib.ListN.{length-append}
use Rattle.basis.specs.Test.{◌and◌, ◌or◌, non, any}
use Rattle.basis.proofs.BoolLaws.{or_none, bar_or, and_parts, eqb_swap, T_true}
use Rattle.basis.proofs.LoopLaws.{any_snoc}
use Rattle.sets.specs.Tells.{Tells}
use Rattle.sets.specs.Mask.{slots, mem, Has, Within, insert, remove, full}
use Rattle.sets.proofs.MaskLaws.{mem_empty, mem_insert, mem_remove, mem_full, full_has}
use Rattle.format.specs.Limits.{max_bytes}
use Rattle.format.specs.Shape.{reads, unbroken, tear_of}
use Rattle.format.specs.Event.{Event, reads_some}
use Rattle.format.specs.Execution.{Execution}
use Rattle.format.specs.Field.{tag_at, value_at, rest_at}
use Rattle.format.specs.Layout.{agent_of, shape_of, event_of}
use Rattle.parse.specs.Parse.{State, taken, after, appears, missing, lowest_lacking}
use Rattle.parse.proofs.AppearLaws.{event_appears, each_appear}
use Rattle.parse.proofs.PromiseLaws.{Kept, kept_blank, kept_after}
use Rattle.entries.specs.declared.Counts.{Counts}
use Rattle.entries.specs.Entries.{event_at, events_on, events_in, execution}
use Rattle.entries.proofs.EntriesLaws.{events_count, rows_count}
use Rattle.agents.proofs.AgentsLaws.{none_lost}
use Rattle.lacking.specs.Bytes.{read_width, read_bytes}
use Rattle.lacking.proofs.BytesLaws.{read_more, read_some, none_lacking}
use Rattle.faults.specs.Faults.{view}
use Rattle.spot.specs.declared.Tally.{Tally}
use Rattle.spot.specs.Between.{Between, Ready, Advanced, Reached, at_first, one_more, tally_with, Tallied, Through}
use Rattle.spot.proofs.TakenLaws.{value_event}
use Rattle.spot.proofs.BetweenLaws.{counted_of}

tallied_none : Tallied [] (record { bytes = 0; agents = 0 })
unfolding read_bytes appears any
tallied_none = record { bytes = refl; small = omega arith; agents = λ a h. mem_empty a }

pub tallied_start : (s : List ℕ) (edition : ℕ) (at : List ℕ) → Tallied (events_on s edition 0 at) (record { bytes = 0; agents = 0 })
unfolding events_on
tallied_start s edition at = tallied_none

tallied_more : (l : List Event) (t : Tally) (d : Event) → Tallied l t → read_width d.accesses ≤ 255 → Tallied (l ++ (d ∷ [])) (tally_with t d)
unfolding appears
tallied_more l t d k h =
    record {
      bytes = ap (λ (n : ℕ). n + read_width d.accesses) k.bytes ∙ sym (read_more l d);
      small = let n = length-append l (d ∷ []) in let s = k.small in omega arith;
      agents = λ a b. go a b (ltb d.agent slots) refl ∙ sym (any_snoc (λ (e : Event). eqb e.agent a) l d);
    }
  where
    go : (a : ℕ) → a < slots → (c : Bool) → ltb d.agent slots ≡ c
        → mem (cond c (insert t.agents d.agent) t.agents) a ≡ (any (λ (e : Event). eqb e.agent a) l or eqb d.agent a)
    go a b true q = mem_insert t.agents d.agent a ∙ bar_or _ _ ∙ ap (λ (c : Bool). c or eqb a d.agent) (k.agents a b) ∙ ap (λ (c : Bool). any (λ (e : Event). eqb e.agent a) l or c) (eqb_swap a d.agent)
    go a b false q =
        let n = ltb-false d.agent slots q in
        let z : eqb d.agent a ≡ false = ne_eqb d.agent a (λ (u : d.agent ≡ a). omega arith) in
        k.agents a b ∙ sym (or_none _) ∙ ap (λ (c : Bool). any (λ (e : Event). eqb e.agent a) l or c) (sym z)

tally_path : {b c m n : ℕ} → b ≡ c → m ≡ n → ◌≡◌ {A = Tally} (record { bytes = b; agents = m }) (record { bytes = c; agents = n })
tally_path p q = λ i. record { bytes = p i; agents = q i }

-- as the code makes it
pub tally_made : (s : List ℕ) (p : ℕ) (t : Tally) (b m : ℕ) → b ≡ cond (reads (shape_of 2 (rest_at s p))) (shape_of 2 (rest_at s p)).width 0
    → m ≡ cond (ltb (agent_of (rest_at s p)) slots) (insert t.agents (agent_of (rest_at s p))) t.agents
    → ◌≡◌ {A = Tally} (record { bytes = t.bytes + b; agents = m }) (tally_with t (event_at s 2 p))
unfolding read_width
tally_made s p t b m e f = tally_path (omega arith) f

-- what a tally asks of an event stands alike in every edition
any_edition : (s : List ℕ) (edition p : ℕ) (t : Tally) → tally_with t (event_at s 2 p) ≡ tally_with t (event_at s edition p)
unfolding read_width reads
any_edition s edition p t = refl

pub tally_any : (s : List ℕ) (edition p : ℕ) (t : Tally) (b m : ℕ)
    → b ≡ cond (reads (shape_of edition (rest_at s p))) (shape_of edition (rest_at s p)).width 0
    → m ≡ cond (ltb (agent_of (rest_at s p)) slots) (insert t.agents (agent_of (rest_at s p))) t.agents
    → ◌≡◌ {A = Tally} (record { bytes = t.bytes + b; agents = m }) (tally_with t (event_at s 2 p))
unfolding reads
tally_any s edition p t b m e f = tally_made s p t b m e f

-- a number, or nothing
pub by_test : (b : Bool) (w : ℕ) → bool_byte b * w ≡ cond b w 0
by_test true w = one-mul w
by_test false w = zero-mul w

pub at_most : (b : Bool) (w : ℕ) → w ≤ 255 → cond b w 0 ≤ 255
at_most true w h = h
at_most false w h = omega arith

-- a test as a number: 01's rule for tear-free
pub tear_number : (b : Bool) (kind mode start width : ℕ) → b ≡ (non (eqb kind 4) and (eqb mode 2 or (eqb mode 1 and unbroken width start)))
    → bool_byte b ≡ tear_of kind mode start width
unfolding tear_of
tear_number b kind mode start width e = go b ∙ ap one e
  where
    one : Bool → ℕ
    one c = cond c 1 0

    go : (c : Bool) → bool_byte c ≡ one c
    go true = refl
    go false = refl

module _ (x : Execution) (tag : ℕ) (v : List ℕ) where
  taken_event : eqb tag 2 ≡ true → (taken x tag v).events ≡ x.events ++ (event_of x.head.edition v ∷ [])
  unfolding taken
  taken_event h = let e : tag ≡ 2 = eqb-true _ _ h in rw e refl

  taken_else : eqb tag 2 ≡ false → (taken x tag v).events ≡ x.events
  unfolding taken
  taken_else h = go (eqb tag 1) refl (eqb tag 3) refl (eqb tag 4) refl
    where
      go : (a : Bool) → eqb tag 1 ≡ a → (b : Bool) → eqb tag 3 ≡ b → (c : Bool) → eqb tag 4 ≡ c → (taken x tag v).events ≡ x.events
      go true p b q c r = rw p refl
      go false p true q c r = rw (p, h, q) refl
      go false p false q true r = rw (p, h, q, r) refl
      go false p false q false r = rw (p, h, q, r) refl

module _ (s : List ℕ) (p last : ℕ) (x : Counts) (at : List ℕ) where
  pub tally_room : Between s p last x at → (t : Tally) → Tallied (events_in s x at) t → t.bytes < max_bytes * 2
  tally_room b t k =
      let n = events_count s x.head.edition x.events at (counted_of s p last x at b).room in
      let f = b.few_inits in
      let o = b.few_others in
      let m = k.small in
      omega arith

  module _ (r : Ready s p last x at) (y : Counts) (at' : List ℕ) (a : Advanced s p last x at y at') (t : Tally) (k : Tallied (events_in s x at) t) where
    abbrev got : Execution
    got = execution s x at

    now_events : events_in s y at' ≡ (taken got (tag_at s p) (value_at s p)).events
    unfolding after
    now_events = ap (λ (st : State). st.got.events) a.seen

    pub tally_next : (u : Tally) → u ≡ cond (eqb (tag_at s p) 2) (tally_with t (event_at s 2 p)) t → u.bytes ≤ t.bytes + 255 → Tallied (events_in s y at') u
    tally_next u e h = subst (λ (l : List Event). Tallied l u) (sym now_events) (go (eqb (tag_at s p) 2) refl)
      where
        go : (c : Bool) → eqb (tag_at s p) 2 ≡ c → Tallied (taken got (tag_at s p) (value_at s p)).events u
        go false q = subst (λ (l : List Event). Tallied l u) (sym (taken_else got (tag_at s p) (value_at s p) q)) (subst (Tallied (events_in s x at)) (sym (rw q at e)) k)
        go true q =
            let f : u ≡ tally_with t (event_at s x.head.edition p) = (rw q at e) ∙ any_edition s x.head.edition p t in
            let g : u.bytes ≡ t.bytes + read_width (event_at s x.head.edition p).accesses = ap (λ (w : Tally). w.bytes) f in
            let i = taken_event got (tag_at s p) (value_at s p) q ∙ ap (λ (d : Event). events_in s x at ++ (d ∷ [])) (value_event s p (view s last x at) r.clean (eqb-true _ _ q)) in
            subst (λ (l : List Event). Tallied l u) (sym i) (subst (Tallied (events_in s x at ++ (event_at s x.head.edition p ∷ []))) (sym f) (tallied_more (events_in s x at) t (event_at s x.head.edition p) k (omega arith)))

-- ---- at the end

pub told_some : (l : List Event) (t : Tally) → Tallied l t → (t.bytes ≡ 0 → ⊥) → true ≡ any reads_some l
told_some l t k h = let e = k.bytes in sym (read_some l (omega arith))

reached_kept : (s : List ℕ) {p : ℕ} {st : State} → Reached s p st → Kept st
reached_kept s at_first = kept_blank
reached_kept s (one_more {p} {st} r f) = kept_after s p st f (reached_kept s r)

pub told_none_lacking : (s : List ℕ) (last : ℕ) (x : Counts) (at : List ℕ) (t : Tally) → Through s last x at → Tallied (events_in s x at) t → t.bytes ≡ x.rows
    → lowest_lacking (execution s x at) ≡ none
told_none_lacking s last x at t h k e =
    none_lacking (view s last x at) (reached_kept s h.reached) (rows_count s x.head.edition x.rows_at x.rows ∙ sym e ∙ k.bytes)

-- the agents that the head promises, as a set
module _ (x : Execution) (t : Tally) (k : Tallied x.events t) (small : x.head.agents + 1 < slots) where
  abbrev promised : ℕ
  promised = remove (full (min (x.head.agents + 1) slots)) (0 % slots)

  same_full : full (min (x.head.agents + 1) slots) ≡ full (x.head.agents + 1)
  same_full = let m : min (x.head.agents + 1) slots ≡ x.head.agents + 1 = omega arith in ap full m

  promised_mem : (a : ℕ) → mem promised a ≡ (mem (full (x.head.agents + 1)) a && not (eqb a 0))
  promised_mem a = mem_remove (full (min (x.head.agents + 1) slots)) (0 % slots) a ∙ ap (λ (f : ℕ). mem f a && not (eqb a 0)) same_full

  there : (a : ℕ) → 1 ≤ a → a ≤ x.head.agents → Has promised a
  there a lo hi =
      let z : eqb a 0 ≡ false = ne_eqb a 0 (λ (u : a ≡ 0). omega arith) in
      let f : mem (full (x.head.agents + 1)) a ≡ true = mem_full (x.head.agents + 1) a (omega arith) in
      promised_mem a ∙ rw (f, z) refl

  only : (a : ℕ) → Has promised a → (1 ≤ a) × (a ≤ x.head.agents)
  only a h =
      let w = and_parts (mem (full (x.head.agents + 1)) a) (not (eqb a 0)) (sym (promised_mem a) ∙ h) in
      let b = full_has (x.head.agents + 1) a w.0 in
      let z = eqb-false a 0 (not_true_false (eqb a 0) w.1) in
      (one a z, omega arith)
    where
      not_true_false : (b : Bool) → not b ≡ true → b ≡ false
      not_true_false true e = absurd (false≢true e)
      not_true_false false e = refl

      one : (a : ℕ) → (a ≡ 0 → ⊥) → 1 ≤ a
      one a z = omega arith

  pub told_missing : (b : Bool) → Tells b (Within promised t.agents) → not b ≡ missing x
  told_missing true w =
      none_lost x (λ i h. sym (k.agents (i + 1) (omega arith)) ∙ w.holds refl (i + 1) (there (i + 1) (omega arith) (omega arith)))
  told_missing false w = go (missing x) refl
    where
      go : (c : Bool) → missing x ≡ c → true ≡ missing x
      go true e = sym e
      go false e =
          absurd (w.fails refl (λ a h. let o = only a h in let l : a < slots = omega (arith, o.1) in k.agents a l ∙ T_true _ (event_appears x a (each_appear x e a o.0 o.1))))
