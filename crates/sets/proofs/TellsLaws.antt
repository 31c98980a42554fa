-- The laws of specs/Tells.antt. Assumes nothing.
--     tells_yes, tells_no    a flag that is known
--     tells_map              the same flag, of an equivalent thing
--     tells_unique           two flags of one thing are equal
use mathlib.Core.Path.{◌≡◌, refl, sym}
use mathlib.Core.Bool.{Bool, true, false, false≢true}
use Rattle.sets.specs.Tells.{Tells}

pub tells_yes : {A : Type 0} → A → Tells true A
tells_yes a = record { holds = λ p. a; fails = λ p. absurd (false≢true (sym p)) }

pub tells_no : {A : Type 0} → (A → ⊥) → Tells false A
tells_no f = record { holds = λ p. absurd (false≢true p); fails = λ p. f }

pub tells_map : {A B : Type 0} (r : Bool) → (A → B) → (B → A) → Tells r A → Tells r B
tells_map r f g t = record { holds = λ p. f (t.holds p); fails = λ p b. t.fails p (g b) }

pub tells_unique : {A : Type 0} (r q : Bool) → Tells r A → Tells q A → r ≡ q
tells_unique true true s t = refl
tells_unique true false s t = absurd (t.fails refl (s.holds refl))
tells_unique false true s t = absurd (s.fails refl (t.holds refl))
tells_unique false false s t = refl
