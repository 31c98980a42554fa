-- The laws of specs/Arranged.antt. Assumes nothing.
--     answered_by                      an answer by equal tables of bars
--     arranged_said                    how the code's answer is made
--     arranged_unique                  two conforming answers are equal, both buffers too
use mathlib.Core.Path.{◌≡◌, sym, ap, ◌∙◌, subst}
use mathlib.Core.Bool.{Bool, true, false}
use mathlib.Core.List.{List}
use Prim.Native.Nat.{ℕ, min}
use Rattle.sets.specs.Mask.{slots}
use Rattle.orders.specs.Answer.{Answered}
use Rattle.orders.proofs.AnswerLaws.{answered_unique}
use Rattle.answer.specs.declared.Answer.{Answer}
use Rattle.answer.specs.declared.Answer.TheVariants.{Broken, Consistent}
use Rattle.answer.specs.declared.Names.TheVariants.{Nobody}
use Rattle.answer.specs.declared.Settled.{Settled}
use Rattle.settle.specs.Settle.{settled_in}
use Rattle.arrange.specs.Arranged.{bars_of, said_of, Arranged}

pub answered_by : {k n : ℕ} {pred bars bars' scratch order : List ℕ} {r : Bool} {scratch' order' : List ℕ} → bars ≡ bars' → Answered k n pred bars scratch order r scratch' order'
    → Answered k n pred bars' scratch order r scratch' order'
answered_by {k} {n} {pred} {bars} {bars'} {scratch} {order} {r} {scratch'} {order'} e a = subst (λ (b : List ℕ). Answered k n pred b scratch order r scratch' order') e a

-- how the code's answer is made
pub arranged_said : {k n m : ℕ} {t q succ pred scratch order : List ℕ} {found : Bool} {scratch' order' : List ℕ}
    → Answered k n pred (bars_of t n succ pred q m) scratch order found scratch' order' → {r : Answer} → r ≡ said_of found (settled_in t succ (min n slots))
    → Arranged k n m t q succ pred scratch order r scratch' order'
arranged_said {found = found} a e = record { found = found; searched = a; says = e }

pub arranged_unique : {k n m : ℕ} {t q succ pred scratch order : List ℕ} {r a : Answer} {s s' o o' : List ℕ}
    → Arranged k n m t q succ pred scratch order r s o → Arranged k n m t q succ pred scratch order a s' o' → (r ≡ a) × (s ≡ s') × (o ≡ o')
arranged_unique {n = n} {t = t} {succ = succ} x y =
    let u = answered_unique x.found y.found x.searched y.searched in
    (x.says ∙ ap (λ (b : Bool). said_of b (settled_in t succ (min n slots))) u.0 ∙ sym y.says, u.1, u.2)
