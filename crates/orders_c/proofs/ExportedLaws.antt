-- Two results that the contract of `orders_count_sets` allows for the same input are equal: the number and the scratch. Assumes nothing.
--     exported_unique number_or
use mathlib.Core.Path.{◌≡◌, refl, sym, ap, ◌∙◌}
use mathlib.Core.List.{List}
use Prim.Native.Nat.{ℕ}
use Rattle.std.specs.Prelude.{Option, Some, None}
use Rattle.std.specs.Option.{unwrap_or}
use Rattle.reach.proofs.TalliedLaws.{tallied_unique}
use Rattle.orders_c.specs.Exported.{number_of, Exported}

pub exported_unique : (k m : ℕ) (before bars scratch : List ℕ) (limit r q : ℕ) (a b : List ℕ) → Exported k m before bars scratch limit r a
    → Exported k m before bars scratch limit q b → (r ≡ q) × (a ≡ b)
exported_unique k m before bars scratch limit r q a b e f =
    let w = tallied_unique e.answer f.answer e.is f.is in (e.number ∙ ap number_of w.0 ∙ sym f.number, w.1)

-- all bits where there is no number
pub number_or : (r : Option ℕ) → unwrap_or r 18446744073709551615 ≡ number_of r
number_or (Some c) = refl
number_or None = refl
