-- Unsettled pairs (01, "Rules", below the table). Laws: proofs/UnsettledLaws.antt.
--     clash a b              two accesses that happens-before has to settle
--     unsettled x hb e d     e and d are an unsettled pair              unsettled_pair x hb     the lowest
--     Orderly x hb           there is none
-- Assumes nothing.
use Rattle.std.specs.Prelude.{Bool, ℕ, T, ltb}
use Rattle.std.proofs.Math.Option.{Option}
use Rattle.basis.specs.Test.{◌and◌, ◌or◌, non, find, across}
use Rattle.format.specs.declared.Shape.{Shape}
use Rattle.format.specs.Shape.{writes, overlap, both_sc}
use Rattle.format.specs.Execution.{Execution, event}
use Rattle.model.specs.Events.{numbers, any_two}

-- 01: "ranges overlap, one or both write, .. and they are not both sc with equal ranges"
unfoldable pub clash : Shape → Shape → Bool
clash a b = overlap a b and (writes a or writes b) and non (both_sc a b)

-- 01: "Unsettled pair (e, d), e < d: ranges overlap, one or both write, neither happens before the other, and they are not both sc with equal
-- ranges."
unfoldable pub unsettled : Execution → (ℕ → ℕ → Bool) → ℕ → ℕ → Bool
unsettled x hb e d = ltb e d and non (hb e d) and non (hb d e) and any_two clash (event x e) (event x d)

-- 01: "Otherwise the lowest pair is named."
unfoldable pub unsettled_pair : Execution → (ℕ → ℕ → Bool) → Option (ℕ × ℕ)
unsettled_pair x hb = find (λ (p : ℕ × ℕ). unsettled x hb p.0 p.1) (across (numbers x) (numbers x))

-- 01: "Orderly: no such pair."
abbrev pub Orderly : Execution → (ℕ → ℕ → Bool) → Type 0
Orderly x hb = (e d : ℕ) → T (unsettled x hb e d) → ⊥
