-- The laws of specs/Faults.antt: where the events are counted, the counts tell parse's own fault. Assumes nothing.
--     others_count, inits_fit       the events that are no inits; the inits are among the events
--     fault_in_lem                      of a field: fault_in s p last x at ≡ fault_at s p (view s last x at)
use Prim.Native.Nat.{ℕ, ◌+◌, ◌-◌, ◌≤◌}
use mathlib.Core.Path.{◌≡◌, sym, ap, ap₂, ◌∙◌}
use mathlib.Core.Bool.{Bool}
use mathlib.Core.List.{List}
use native.Mathlib.Omega.{arith}
use Rattle.basis.proofs.LoopLaws.{number_both}
use Rattle.format.specs.Event.{is_init}
use Rattle.format.specs.Execution.{inits, others}
use Rattle.content.specs.Content.{room_in}
use Rattle.parse.specs.Parse.{fault_by, fault_at}
use Rattle.entries.specs.declared.Counts.{Counts}
use Rattle.entries.specs.Entries.{events_in}
use Rattle.entries.proofs.EntriesLaws.{events_count}
use Rattle.faults.specs.Faults.{view, Counted, fault_in}

module _ (s : List ℕ) (x : Counts) (at : List ℕ) (k : Counted s x at) where
  inits_others : x.inits + others (events_in s x at) ≡ x.events
  unfolding inits others
  inits_others = rw k.inits (number_both is_init (events_in s x at) ∙ events_count s x.head.edition x.events at k.room)

  pub others_count : others (events_in s x at) ≡ x.events - x.inits
  others_count = let e = inits_others in omega arith

  pub inits_fit : x.inits ≤ x.events
  inits_fit = let e = inits_others in omega arith

  pub fault_in_lem : (p last : ℕ) → fault_in s p last x at ≡ fault_at s p (view s last x at)
  fault_in_lem p last = ap (λ (room : ℕ → Bool). fault_by room s p (view s last x at)) (ap₂ room_in k.inits (sym others_count))
