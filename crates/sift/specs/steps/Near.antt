-- Who writes a byte: what the private steps promise. Laws: proofs/NearLaws.antt. Assumes nothing.
--     Near t ws left l l'       l' is l, of which the mask of each byte has gained the events of ws near it, but for those of left
use Rattle.std.specs.Prelude.{◌≡◌, List, ℕ, ◌*◌, ◌^◌, ◌<◌, length, get_or}
use Rattle.basis.specs.Test.{◌and◌, ◌or◌, non}
use Rattle.sets.specs.Mask.{slots, mem, Has}
use Rattle.tables.specs.Tables.{shape_in}
use Rattle.sift.specs.Clean.{near_to}

pub record Near (t : List ℕ) (ws left : ℕ) (l l' : List ℕ) : Type 0 where
  pub size : length l' ≡ length l
  pub width : left < 2 ^ slots
  pub of : (v : ℕ) → Has left v → Has ws v
  pub each : (v a : ℕ) → a < length l → mem (get_or l' a 0) v ≡ (mem (get_or l a 0) v or ((mem ws v and non (mem left v)) and near_to (shape_in t (2 * v)) a))
