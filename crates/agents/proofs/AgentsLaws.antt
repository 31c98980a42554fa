-- Which agents have an event, noted one event after the other, and the agents that have none. Assumes nothing.
--     present_none, present_more, present_all       of no event; of one more; of all that were counted
--     one_lost, none_lost                           an agent that has no event; each has one
use Prim.Native.Nat.{ℕ, ◌+◌, ◌<◌, min}
use mathlib.Core.Path.{◌≡◌, refl, sym, ap, ◌∙◌, subst}
use mathlib.Core.List.{List, [], ◌∷◌, ◌++◌, map, map-append}
use mathlib.Core.Bool.{Bool, true, false}
use native.Mathlib.Omega.{arith}
use native.Mathlib.Numerals.{add-one}
use borrow.Author.Tests.{eqb-true, eqb-false, eq-eqb}
use lib.Dec.{T, eqb}
use lib.ListN.{length, get_or, set, take, replicate, length-set, length-replicate, get_or-replicate}
use lib.Seq.{take-suc, get_or-set_same, get_or-set_other}
use Rattle.basis.specs.Test.{◌or◌, non, any, from}
use Rattle.basis.proofs.BoolLaws.{false_T, or_second, or_none, non_holds, non_fails}
use Rattle.basis.proofs.ListLaws.{from_length, from_at}
use Rattle.basis.proofs.LoopLaws.{any_snoc, any_at, none_intro}
use Rattle.format.specs.Event.{Event}
use Rattle.format.specs.Execution.{Execution}
use Rattle.format.specs.Field.{rest_at}
use Rattle.format.specs.Layout.{agent_of}
use Rattle.parse.specs.Parse.{appears, missing}
use Rattle.entries.specs.Entries.{event_at, events_on}
use Rattle.entries.proofs.EntriesLaws.{events_capped}
use Rattle.agents.specs.steps.Present.{agent_numbers, Present}

-- ---- which agents have an event

-- one event more
noted : (l : List Event) (d : Event) (seen : List ℕ) → d.agent < agent_numbers → Present l seen → Present (l ++ (d ∷ [])) (set seen d.agent 1)
unfolding appears
noted l d seen b p =
    record {
      size = length-set seen d.agent 1 ∙ p.size;
      tells = λ a h. go a h (eqb d.agent a) refl ∙ sym (any_snoc (λ (f : Event). eqb f.agent a) l d);
    }
  where
    go : (a : ℕ) → a < agent_numbers → (c : Bool) → eqb d.agent a ≡ c → eqb (get_or (set seen d.agent 1) a 0) 1 ≡ (any (λ (f : Event). eqb f.agent a) l or eqb d.agent a)
    go a h true e =
        let q : d.agent ≡ a = eqb-true _ _ e in
        let z = p.size in
        let r : get_or (set seen d.agent 1) a 0 ≡ 1 = subst (λ (k : ℕ). get_or (set seen d.agent 1) k 0 ≡ 1) q (get_or-set_same seen d.agent 1 0 (omega arith)) in
        eq-eqb _ _ r ∙ sym (or_second _ _ e)
    go a h false e =
        let q : a ≡ d.agent → ⊥ = λ (t : a ≡ d.agent). eqb-false _ _ e (sym t) in
        rw (get_or-set_other seen d.agent a 1 0 q) (p.tells a h ∙ sym (or_none _) ∙ ap (λ (c : Bool). any (λ (f : Event). eqb f.agent a) l or c) (sym e))

module _ (s : List ℕ) (ed : ℕ) (at : List ℕ) where
  pub present_none : Present (events_on s ed 0 at) (replicate agent_numbers 0)
  unfolding events_on appears any
  present_none = record { size = length-replicate {A = ℕ} agent_numbers 0; tells = λ a h. rw (get_or-replicate {A = ℕ} agent_numbers a 0 0 h) refl }

  pub present_more : (e : ℕ) (seen : List ℕ) → e < length at → agent_of (rest_at s (get_or at e 0)) < agent_numbers → Present (events_on s ed e at) seen
      → Present (events_on s ed (e + 1) at) (set seen (agent_of (rest_at s (get_or at e 0))) 1)
  unfolding events_on
  present_more e seen h b p =
      let m : take (e + 1) at ≡ take e at ++ (get_or at e 0 ∷ []) = rw add-one (take-suc at e 0 h) in
      let l : map (event_at s ed) (take (e + 1) at) ≡ map (event_at s ed) (take e at) ++ (event_at s ed (get_or at e 0) ∷ []) =
      ap (map (event_at s ed)) m ∙ map-append (event_at s ed) (take e at) (get_or at e 0 ∷ []) in
      subst (λ (k : List Event). Present k (set seen (agent_of (rest_at s (get_or at e 0))) 1)) (sym l) (noted (map (event_at s ed) (take e at)) (event_at s ed (get_or at e 0)) seen b p)

  -- of the m events that were counted those that have a place
  pub present_all : (m n : ℕ) (seen : List ℕ) → n ≡ min m (length at) → Present (events_on s ed n at) seen → Present (events_on s ed m at) seen
  present_all m n seen c p = subst (λ (l : List Event). Present l seen) (sym (events_capped s ed m at ∙ ap (λ (k : ℕ). events_on s ed k at) (sym c))) p

-- ---- the agents

module _ (x : Execution) where
  abbrev lost : ℕ → Bool
  lost a = non (appears x.events a)

  number : (i : ℕ) → i < x.head.agents → get_or (from 1 x.head.agents) i 0 ≡ i + 1
  number i h = from_at 1 x.head.agents i 0 h ∙ omega arith

  pub one_lost : (i : ℕ) → i < x.head.agents → appears x.events (i + 1) ≡ false → true ≡ missing x
  unfolding missing
  one_lost i h y = sym (any_at lost (from 1 x.head.agents) i 0 (rw (from_length 1 x.head.agents) h) (ap lost (number i h) ∙ non_holds _ y))

  pub none_lost : ((i : ℕ) → i < x.head.agents → appears x.events (i + 1) ≡ true) → false ≡ missing x
  unfolding missing
  none_lost f = sym (none_intro lost 0 (from 1 x.head.agents) there)
    where
      there : (i : ℕ) → i < length (from 1 x.head.agents) → T (lost (get_or (from 1 x.head.agents) i 0)) → ⊥
      there i h t = let k : i < x.head.agents = rw (from_length 1 x.head.agents) at h in false_T _ (ap lost (number i k) ∙ non_fails _ (f i k)) t
