-- The tests `appears` and `missing` of specs/Parse.antt and what they stand for, `HasEvent` and `EachAppears` of specs/Promise.antt.
--     appears_event, event_appears     from the test to an event of the agent, and back
--     each_appear, none_missing        no agent is missing: each that the head promises has an event, and back
--     one_missing                      some agent is missing: the head promises it, and it has no event
-- Assumes nothing.
use mathlib.Core.Path.{◌≡◌, ap, ◌∙◌}
use mathlib.Core.Logic.{◌⊎◌, inl, inr}
use mathlib.Core.Bool.{Bool, true, false}
use Prim.Native.Nat.{ℕ, ◌≤◌}
use native.Mathlib.Omega.{arith}
use borrow.Author.Tests.{eqb-true, eq-eqb}
use lib.Dec.{T, eqb}
use Rattle.basis.specs.Test.{non, from}
use Rattle.basis.proofs.BoolLaws.{decide, non_elim, non_intro, true_T, T_true, T_false, false_T}
use Rattle.basis.proofs.ListLaws.{from_elim, from_mem, mem_get_or, get_or_mem}
use Rattle.basis.proofs.LoopLaws.{any_elim, any_intro}
use Rattle.format.specs.Event.{Event, nobody}
use Rattle.format.specs.Execution.{Execution, event_no, event}
use Rattle.parse.specs.Parse.{appears, missing}
use Rattle.parse.specs.Promise.{HasEvent, EachAppears}

module _ (x : Execution) where
  module _ (a : ℕ) where
    abbrev is_of : Event → Bool
    is_of d = eqb d.agent a

    pub appears_event : T (appears x.events a) → HasEvent x a
    unfolding appears event event_no
    appears_event t =
        let w = any_elim is_of x.events t in
        let i = mem_get_or nobody w.1 in
        (i.0, i.1, ap {B = ℕ} (λ (d : Event). d.agent) i.2 ∙ eqb-true _ _ (T_true _ w.2))

    pub event_appears : HasEvent x a → T (appears x.events a)
    unfolding appears event event_no
    event_appears h = any_intro is_of x.events (event x h.0) (get_or_mem nobody x.events h.0 h.1) (true_T _ (eq-eqb _ _ h.2))

  abbrev lost : ℕ → Bool
  lost a = non (appears x.events a)

  pub each_appear : missing x ≡ false → EachAppears x
  unfolding missing
  each_appear m a lo hi = go (decide (appears x.events a))
    where
      go : T (appears x.events a) ⊎ (T (appears x.events a) → ⊥) → HasEvent x a
      go (inl t) = appears_event a t
      go (inr h) = absurd (false_T _ m (any_intro lost (from 1 x.head.agents) a (from_mem x.head.agents 1 a lo (omega arith)) (non_intro _ h)))

  pub none_missing : EachAppears x → missing x ≡ false
  unfolding missing
  none_missing h = T_false _ go
    where
      go : T (missing x) → ⊥
      go t =
          let w = any_elim lost (from 1 x.head.agents) t in
          let b = from_elim x.head.agents 1 w.0 w.1 in
          non_elim _ w.2 (event_appears w.0 (h w.0 b.0 (omega (arith, b.1))))

  pub one_missing : missing x ≡ true → (a : ℕ) × (1 ≤ a) × (a ≤ x.head.agents) × (HasEvent x a → ⊥)
  unfolding missing
  one_missing m =
      let w = any_elim lost (from 1 x.head.agents) (true_T _ m) in
      let b = from_elim x.head.agents 1 w.0 w.1 in
      (w.0, b.0, omega (arith, b.1), λ h. non_elim _ w.2 (event_appears w.0 h))
