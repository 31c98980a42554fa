-- What follows from the contracts of crate `first_order` (Answer.antt), and of the problem by itself. proofs/Promises.antt proves each in a line.
-- Assumes nothing.
--     FirstIsFirst     what `first` finds is the first of all total orders that meet the problem; where it finds none, none does
--     FirstBegins      the first order begins with the inits, in the order of their numbers
--     PossibleIsMeets  what `possible` says is whether some total order meets the problem
--     FirstAgrees PossibleAgrees    two conforming answers are equal, buffers too
--     StepsAreOrders   one event at a time and whole orders say the same
--     DeadEnds         a set from which every step leads to a dead set is dead
--     FewerKeep        fewer bars and fewer constraints keep an order
--     SparedSame       bars in which V has to come before W, which is no init, make no difference
--     IdleSame         nor do bars in which R has to come before V
use Rattle.std.specs.Prelude.{ℕ, ◌<◌, ◌≤◌, ◌≡◌, Bool, true, false, ◌↔◌, List, length, take, drop}
use Rattle.basis.specs.Test.{from}
use Rattle.orders.specs.Problem.{Problem}
use Rattle.orders.specs.Order.{Meets}
use Rattle.orders.specs.First.{FirstOf}
use Rattle.orders.specs.Step.{With, Below, Ready, Runs, Dead}
use Rattle.orders.specs.Inits.{Begins}
use Rattle.orders.specs.Spare.{Spares, Idles}
use Rattle.orders.specs.Tables.{tabled}
use Rattle.orders.specs.Answer.{Fits, Told, Answered}

-- 01: "Of all such orders the first .. is reported."
abbrev pub FirstIsFirst : Type 0
FirstIsFirst =
    (k m : ℕ) (before bars scratch order s o : List ℕ) (r : Bool) → Begins (tabled m before bars) k → Fits k m (length scratch) → m ≤ length order
    → Answered k m before bars scratch order r s o
    → (r ≡ true → FirstOf (Meets (tabled m before bars)) (take m o) × (drop m o ≡ drop m order))
    × (r ≡ false → (l : List ℕ) → Meets (tabled m before bars) l → ⊥)

-- READINGS: "The first one always begins with all inits in number order"
abbrev pub FirstBegins : Type 1
FirstBegins = (P : Problem) (k : ℕ) → Begins P k → (o : List ℕ) → FirstOf (Meets P) o → take k o ≡ from 0 k

abbrev pub PossibleIsMeets : Type 0
PossibleIsMeets =
    (k m : ℕ) (before bars scratch s : List ℕ) (r : Bool) → Begins (tabled m before bars) k → Fits k m (length scratch) → Told k m before bars scratch r s
    → (r ≡ true → (l : List ℕ) × Meets (tabled m before bars) l) × (r ≡ false → (l : List ℕ) → Meets (tabled m before bars) l → ⊥)

-- 01: "That any two conforming answers agree is itself proved"
abbrev pub FirstAgrees : Type 0
FirstAgrees =
    (k m : ℕ) (before bars scratch order : List ℕ) (r q : Bool) (s t o p : List ℕ) → Answered k m before bars scratch order r s o
    → Answered k m before bars scratch order q t p → (r ≡ q) × (s ≡ t) × (o ≡ p)

abbrev pub PossibleAgrees : Type 0
PossibleAgrees =
    (k m : ℕ) (before bars scratch : List ℕ) (r q : Bool) (s t : List ℕ) → Told k m before bars scratch r s → Told k m before bars scratch q t → (r ≡ q) × (s ≡ t)

abbrev pub StepsAreOrders : Type 1
StepsAreOrders = (P : Problem) (k : ℕ) → Begins P k → (l : List ℕ) → Meets P l ↔ Runs P (λ d. ⊥) l

abbrev pub DeadEnds : Type 1
DeadEnds =
    (P : Problem) (S : ℕ → Type 0) → (((e : ℕ) → e < P.events → S e) → ⊥) → ((e : ℕ) → Ready P S e → Dead P (With S e)) → Dead P S

-- 02 §8, §12
abbrev pub FewerKeep : Type 1
FewerKeep =
    (P Q : Problem) → Q.events ≡ P.events → ((a b : ℕ) → Q.Before a b → P.Before a b) → ((r w v : ℕ) → Q.Bar r w v → P.Bar r w v)
    → (l : List ℕ) → Meets P l → Meets Q l

abbrev pub SparedSame : Type 1
SparedSame = (P Q : Problem) (k : ℕ) → Spares P Q k → (l : List ℕ) → Runs P (Below k) l ↔ Runs Q (Below k) l

abbrev pub IdleSame : Type 1
IdleSame = (P Q : Problem) (k : ℕ) → Idles P Q k → (l : List ℕ) → Runs P (Below k) l ↔ Runs Q (Below k) l
