-- At edition 1, a tear byte that the rule does not give: the event is refused 6, whatever else is wrong with it (02 §4). Assumes nothing.
--     tear_refused
use mathlib.Core.Path.{◌≡◌, refl, ap, ◌∙◌}
use mathlib.Core.Logic.{◌⊎◌, inl, inr}
use mathlib.Core.Bool.{Bool, true, false}
use mathlib.Core.List.{List}
use Prim.Native.Nat.{ℕ}
use native.Mathlib.Omega.{arith}
use borrow.Author.Tests.{le-ltb, ne_eqb}
use lib.Dec.{ltb}
use lib.ListN.{length}
use Rattle.basis.specs.Test.{◌and◌, non}
use Rattle.basis.proofs.BoolLaws.{and_fails}
use Rattle.format.specs.declared.Head.{Head}
use Rattle.format.specs.declared.Shape.{Shape}
use Rattle.format.specs.Shape.{tear_of}
use Rattle.format.specs.Event.{Event}
use Rattle.format.specs.Layout.{event_bytes, tear_by, agent_of, shape_of}
use Rattle.content.specs.Content.{inside, formed, tear_fits, alone, event_fits}
use Rattle.content.proofs.ContentLaws.{KindFacts, a_read, a_write, both, a_marker, InitFacts, OtherFacts, formed_cases}
use Rattle.parse.specs.Parse.{event_fault, event_fault_by}
use Rattle.encode.specs.Table.{Description}
use Rattle.encode.specs.Encode.{kind_byte, event_value}
use Rattle.encode.proofs.EncodeLaws.{said_long, said_shape}

-- 0 is no kind
no_kind : (agents agent : ℕ) (a : Shape) → a.kind ≡ 0 → formed agents agent a ≡ false
no_kind agents agent a e = go (formed agents agent a) refl
  where
    kinds : KindFacts a → ⊥
    kinds (a_read k z) = omega arith
    kinds (a_write k z) = omega arith
    kinds (both k m z) = omega arith
    kinds (a_marker k m) = omega arith

    facts : InitFacts agent a ⊎ OtherFacts agents agent a → ⊥
    facts (inl i) = let k = i.kind in omega arith
    facts (inr o) = kinds o.kind

    go : (b : Bool) → formed agents agent a ≡ b → formed agents agent a ≡ false
    go true p = absurd (facts (formed_cases agents agent a p))
    go false p = p

second_fails : (a b : Bool) → b ≡ false → (a and b) ≡ false
unfolding ◌and◌
second_fails true b e = e
second_fails false b e = refl

module _ (h : Head) (events : List Event) (d : Description) (one : h.edition ≡ 1) (n : d.tear ≡ tear_of d.kind d.mode d.start d.width → ⊥) where
  abbrev a : Shape
  a = shape_of h.edition (event_value h.edition d)

  -- edition 1 has no tear byte: it is encoded with no kind
  kind_none : kind_byte h.edition d ≡ 0
  unfolding kind_byte tear_by
  kind_none = simp (one, ne_eqb d.tear (tear_of d.kind d.mode d.start d.width) n)

  no_fit : event_fits h events (agent_of (event_value h.edition d)) a ≡ false
  unfolding event_fits alone
  no_fit =
      let g = agent_of (event_value h.edition d) in
      let k : a.kind ≡ 0 = ap {B = ℕ} (λ (b : Shape). b.kind) (said_shape h.edition d) ∙ kind_none in
      and_fails (inside h.size a and formed h.agents g a and tear_fits a) _
      (second_fails (inside h.size a) _ (and_fails (formed h.agents g a) _ (no_kind h.agents g a k)))

  pub tear_refused : event_fault h events (event_value h.edition d) ≡ 6
  unfolding event_fault_by non
  tear_refused =
      let m = said_long h.edition d in
      let l : ltb (length (event_value h.edition d)) (event_bytes h.edition) ≡ false = le-ltb (length (event_value h.edition d)) (event_bytes h.edition) (omega arith) in
      rw (l, no_fit) refl
