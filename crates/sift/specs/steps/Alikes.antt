-- Equal ranges by event: what the private steps promise. Laws: proofs/AlikesLaws.antt. Assumes nothing.
--     Gained by ws left eq      the mask of each event has the events of ws whose key is its own, but for those of left
--     Bare a m                  m is empty where the access a is not sc
--     Agrees t eq eqs           the mask of an event whose first access covers a byte is that of this access in eqs, which is empty where it is not sc
use Rattle.std.specs.Prelude.{◌≡◌, true, false, List, ℕ, ◌*◌, ◌^◌, ◌<◌, eqb, length, get_or}
use Rattle.basis.specs.Test.{◌and◌, non}
use Rattle.format.specs.declared.Shape.{Shape}
use Rattle.format.specs.Shape.{sc, covers}
use Rattle.sets.specs.Mask.{slots, mem, Has}
use Rattle.tables.specs.Tables.{shape_in}

pub record Gained (by : List ℕ) (ws left : ℕ) (eq : List ℕ) : Type 0 where
  pub size : length eq ≡ slots
  pub width : left < 2 ^ slots
  pub of : (v : ℕ) → Has left v → Has ws v
  pub each : (e v : ℕ) → e < slots → mem (get_or eq e 0) v ≡ ((mem ws v and non (mem left v)) and eqb (get_or by e 0) (get_or by v 0))

abbrev pub Bare : Shape → ℕ → Type 0
Bare a m = sc a ≡ false → m ≡ 0

pub record Agrees (t eq eqs : List ℕ) : Type 0 where
  pub same : (e a : ℕ) → e < slots → covers (shape_in t (2 * e)) a ≡ true → get_or eq e 0 ≡ get_or eqs (2 * e) 0
  pub bare : (e : ℕ) → e < slots → Bare (shape_in t (2 * e)) (get_or eqs (2 * e) 0)
