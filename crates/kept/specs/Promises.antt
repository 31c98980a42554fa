-- What the crate promises beyond its function's contract. proofs/Promises.antt proves each. Assumes nothing.
--     KeptLeavesNone    what is kept leaves no order
--     KeptNeedsEach     without any one of the kept bars some order exists
--     KeptIsPart        what is kept is a part of the bars, in their order
--     KeptNothing       nothing is kept exactly where no bars at all leave no order
--     KeptUnique        there is one such list
--     KeptByTest        and where a test tells which bars leave none, it is the list of the definition by tests
--     FewerLeave        fewer bars keep an order: the walk's statement of a table is of that kind
--     KeepsAgree        two conforming answers are equal, buffers too
use Rattle.std.specs.Prelude.{ℕ, ◌≡◌, ◌↔◌, Bool, List, [], ◌∷◌, ◌++◌}
use Rattle.kept.specs.declared.Finding.{Finding}
use Rattle.kept.specs.Bars.{Placeable}
use Rattle.kept.specs.Kept.{kept, KeptOf, TellsNone, Sub, Fewer}
use Rattle.kept.specs.Keeps.{Keeps}

-- 02 §8: "What is kept admits no order"
abbrev pub KeptLeavesNone : Type 1
KeptLeavesNone = (A : Type 0) (L : List A → Type 0) (bars l : List A) → KeptOf L bars l → L l → ⊥

-- 02 §8: "and without any one of its bars some order exists"
abbrev pub KeptNeedsEach : Type 1
KeptNeedsEach = (A : Type 0) (L : List A → Type 0) → Fewer L → (bars p q : List A) (b : A) → KeptOf L bars (p ++ (b ∷ q)) → L (p ++ q)

abbrev pub KeptIsPart : Type 1
KeptIsPart = (A : Type 0) (L : List A → Type 0) (bars l : List A) → KeptOf L bars l → Sub l bars

abbrev pub KeptNothing : Type 1
KeptNothing = (A : Type 0) (L : List A → Type 0) → Fewer L → (bars l : List A) → KeptOf L bars l → (l ≡ []) ↔ (L [] → ⊥)

abbrev pub KeptUnique : Type 1
KeptUnique = (A : Type 0) (L : List A → Type 0) (bars k l : List A) → KeptOf L bars k → KeptOf L bars l → k ≡ l

abbrev pub KeptByTest : Type 1
KeptByTest = (A : Type 0) (L : List A → Type 0) (none : List A → Bool) (bars : List A) → TellsNone none L bars → (l : List A) → KeptOf L bars l → l ≡ kept none bars

abbrev pub FewerLeave : Type 0
FewerLeave = (m : ℕ) (before : List ℕ) (k : ℕ) → Fewer (Placeable m before k)

-- 01: "That any two conforming answers agree is itself proved"
abbrev pub KeepsAgree : Type 0
KeepsAgree =
    (k m : ℕ) (before bars scratch out : List ℕ) (r q : Finding) (s t o p : List ℕ) → Keeps k m before bars scratch out r s o
    → Keeps k m before bars scratch out q t p → (r ≡ q) × (s ≡ t) × (o ≡ p)
