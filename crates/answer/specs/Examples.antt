-- Words written out (01, What comes back), so that a kind, a number or a byte in another place is seen. Computed in proofs/Examples.antt.
--     Right     the words of five answers
-- Assumes nothing.
use Rattle.std.specs.Prelude.{◌≡◌, List, [], ◌∷◌, ℕ}
use Rattle.answer.specs.declared.Names.TheVariants.{Event, Between}
use Rattle.answer.specs.declared.Settled.TheVariants.{Orderly, Unsettled}
use Rattle.answer.specs.declared.Answer.TheVariants.{Refused, Broken, Consistent}
use Rattle.answer.specs.Word.{packed}

-- 01: "kind (1, 2, 3) times 2^40, plus number times 2^32, plus the place, or the four names as bytes, the first most significant, 255 for none. For
-- kind 3 the number is 0 orderly, 1 unsettled; the first two names are the pair, all others 255." Litmus 2, 4, 10, 1 and 8.
abbrev pub Right : Type 0
Right =
    ◌≡◌ {A = List ℕ}
    (packed (Refused 11 15) ∷ packed (Broken 24 (Between 4 0 1 0)) ∷ packed (Broken 22 (Event 1)) ∷ packed (Consistent Orderly) ∷ packed (Consistent (Unsettled 1 4)) ∷ [])
    (0x10b0000000f ∷ 0x21804000100 ∷ 0x21601ffffff ∷ 0x300ffffffff ∷ 0x3010104ffff ∷ [])
