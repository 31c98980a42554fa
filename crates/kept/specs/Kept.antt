-- The walk over a list of bars (02 §8), whatever bars are, and whatever "leaves an order" says of them. Laws: proofs/KeptLaws.antt. Assumes nothing.
--     kept test bars             the bars that are kept, by a test of "these leave no order"
--     Walk Leaves done rest l    with `done` kept so far and `rest` not yet tried, the walk keeps l of the rest: a step at a time, as the code goes it
--     KeptOf Leaves bars l       all bars together leave no order, and the walk over them keeps l
--     TellsNone test Leaves bars     it is such a test for parts of the bars; the two then say the same (`kept_is`, proofs/KeptLaws.antt)
--     Sub k l                    k is l with some left out
--     Fewer Leaves               fewer bars keep an order
use Rattle.std.specs.Prelude.{◌↔◌, Bool, cond, T}
use mathlib.Core.List.{List, [], ◌∷◌, ◌++◌, Memᴰ}

module _ {A : Type 0} where
  -- 02 §8: "Then go through them from the first: drop a bar if the remaining bars together with happens-before still leave no order, else keep it."
  -- The remaining bars are those kept so far and those not yet tried.
  unfoldable pub kept_of : (List A → Bool) → List A → List A → List A
  kept_of test done [] = []
  kept_of test done (b ∷ rest) =
      let dropped = kept_of test done rest in
      let needed = kept_of test (done ++ (b ∷ [])) rest in
      cond (test (done ++ rest)) dropped (b ∷ needed)

  abbrev pub kept : (List A → Bool) → List A → List A
  kept test bars = kept_of test [] bars

  pub data Walk (Leaves : List A → Type 0) : List A → List A → List A → Type 0 where
    end : {done : List A} → Walk Leaves done [] []
    drop : {done rest l : List A} {b : A} → (Leaves (done ++ rest) → ⊥) → Walk Leaves done rest l → Walk Leaves done (b ∷ rest) l
    keep : {done rest l : List A} {b : A} → Leaves (done ++ rest) → Walk Leaves (done ++ (b ∷ [])) rest l → Walk Leaves done (b ∷ rest) (b ∷ l)

  pub record KeptOf (Leaves : List A → Type 0) (bars l : List A) : Type 0 where
    pub broken : Leaves bars → ⊥
    pub walk : Walk Leaves [] bars l

  abbrev pub TellsNone : (List A → Bool) → (List A → Type 0) → List A → Type 0
  TellsNone test Leaves bars = (l : List A) → ((b : A) → Memᴰ b l → Memᴰ b bars) → T (test l) ↔ (Leaves l → ⊥)

  pub data Sub : List A → List A → Type 0 where
    none : Sub [] []
    skip : {k l : List A} {b : A} → Sub k l → Sub k (b ∷ l)
    both : {k l : List A} {b : A} → Sub k l → Sub (b ∷ k) (b ∷ l)

  abbrev pub Fewer : (List A → Type 0) → Type 0
  Fewer Leaves = (k l : List A) → Sub k l → Leaves l → Leaves k
