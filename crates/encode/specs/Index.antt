-- The place of a refusal turned into the index in the table (02 §2: "the place being the index in the table at fault (0 for 1, 5, 10 and 14)").
-- An entry's index in its own list is the number of fields of its tag that stand before it. Laws: proofs/IndexLaws.antt, proofs/PlaceLaws.antt.
--     same_from s k q p     the fields from place q on that stand before p and have the tag of the field at p; k is more than their number
--     no_entry n            refusal n is about no entry of a list
--     index_of s n p        the index of refusal n at place p
-- Assumes nothing.
use Rattle.std.specs.Prelude.{Bool, true, false, cond, List, ℕ, zero, suc, ◌+◌, eqb, ltb}
use Rattle.basis.specs.Test.{◌or◌}
use Rattle.format.specs.Field.{tag_at, next_at}

unfoldable pub same_from : List ℕ → ℕ → ℕ → ℕ → ℕ
same_from s zero q p = 0
same_from s (suc k) q p =
    elim (ltb q p) [
      | false ↦ 0
      | true ↦ cond (eqb (tag_at s q) (tag_at s p)) 1 0 + same_from s k (next_at s q) p
    ]

unfoldable pub no_entry : ℕ → Bool
no_entry n = eqb n 1 or eqb n 5 or eqb n 10 or eqb n 14

unfoldable pub index_of : List ℕ → ℕ → ℕ → ℕ
index_of s n p = cond (no_entry n) 0 (same_from s (suc p) 0 p)
