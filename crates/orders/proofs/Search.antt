-- The first order as it computes, over a test of happens-before and a list of bars: by trying the events in turn, lowest first, behind the inits.
-- That it is the first of `posed`: proofs/SearchLaws.antt. Assumes nothing.
--     member, without            lists of events: e is in it; all but e
--     first_of, gated, unless_done the first answer that there is; an answer only where a test passes; nothing more to do where no event is left
--     free, search               c may be placed next; the events left, at most k of them, in the first order in which they can be placed
--     order_in k m hb l           the first order of k inits and m other events
use mathlib.Core.Bool.{Bool, true, false}
use mathlib.Core.List.{List, [], ◌∷◌, ◌++◌}
use mathlib.Core.Option.{Option, none, some}
use Prim.Native.Nat.{ℕ, zero, suc}
use lib.Dec.{eqb}
use Rattle.basis.specs.Test.{◌and◌, non, any, those, ◌else◌, mapped, from}
use Rattle.orders.specs.Posed.{Triple}

unfoldable pub member : ℕ → List ℕ → Bool
member e l = any (eqb e) l

unfoldable pub without : ℕ → List ℕ → List ℕ
without e l = those (λ (d : ℕ). non (eqb e d)) l

unfoldable pub first_of : (ℕ → Option (List ℕ)) → List ℕ → Option (List ℕ)
first_of f [] = none
first_of f (c ∷ l) = let r = first_of f l in f c else r

unfoldable pub gated : Bool → Option (List ℕ) → Option (List ℕ)
gated true s = s
gated false s = none

unfoldable pub unless_done : List ℕ → Option (List ℕ) → Option (List ℕ)
unless_done [] r = some []
unless_done (e ∷ l) r = r

-- c may be placed next: none of the rest happens before it, and it is not the V of a bar with W placed and R not
unfoldable pub free : (ℕ → ℕ → Bool) → List Triple → List ℕ → List ℕ → ℕ → Bool
free hb l placed rest c =
    non (any (λ (d : ℕ). hb d c) rest)
    and non (any (λ (b : Triple). eqb b.1.1 c and member b.1.0 placed and member b.0 rest) l)

unfoldable pub search : (ℕ → ℕ → Bool) → List Triple → ℕ → List ℕ → List ℕ → Option (List ℕ)
search hb l zero placed rest = unless_done rest none
search hb l (suc k) placed rest =
    let r =
    first_of (λ (c : ℕ). let s = mapped (λ (o : List ℕ). c ∷ o) (search hb l k (c ∷ placed) (without c rest)) in gated (free hb l placed rest c) s) rest in
    unless_done rest r

unfoldable pub order_in : ℕ → ℕ → (ℕ → ℕ → Bool) → List Triple → Option (List ℕ)
order_in k m hb l = mapped (λ (o : List ℕ). from 0 k ++ o) (search hb l m (from 0 k) (from k m))
