-- What a private step of this crate answers: the widths that an event that is no init may have, by its kind and mode, as a set (crates/sets). Laws:
-- proofs/WidthsLaws.antt. What the crate promises stands in ../Content.antt.
--     widths_of     1, 2, 4, 8 for an access, 0 for a marker, none for all else
-- Assumes nothing.
use Rattle.std.specs.Prelude.{cond, ℕ, eqb}
use Rattle.basis.specs.Test.{◌or◌}

unfoldable pub widths_of : ℕ → ℕ → ℕ
widths_of kind mode =
    cond (eqb mode 1) (cond (eqb kind 1 or eqb kind 2) 278 0)
    (cond (eqb mode 2) (cond (eqb kind 1 or eqb kind 2 or eqb kind 3) 278 (cond (eqb kind 4) 1 0)) 0)
