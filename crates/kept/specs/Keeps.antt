-- What the walk over the bars of a table answers, and what it leaves in the lent buffers, for all inputs (02 §8). Laws: proofs/KeepsLaws.antt.
--     KeptList ..     the kept list stands in front of the buffer            KeptBeyond ..    it has no room there
--     Finds ..        what each answer says, and what it leaves in the buffer
--     Keeps ..        the answer of `keep`
-- Assumes nothing.
use Rattle.std.specs.Prelude.{ℕ, ◌-◌, ◌*◌, ◌<◌, ◌≤◌, ◌≡◌, List, ◌++◌, length, drop}
use Rattle.marks.specs.Table.{bytes_for, cleared}
use Rattle.orders.specs.Posed.{Triple}
use Rattle.orders.specs.Answer.{Fits}
use Rattle.kept.specs.declared.Finding.{Finding}
use Rattle.kept.specs.declared.Finding.TheVariants.{Order, Bars, Small, Unfit}
use Rattle.kept.specs.Bars.{table_bars, bytes_of, Placeable}
use Rattle.kept.specs.Kept.{KeptOf}

-- 02 §8: "Only the kept list is written, into a lent buffer, three bytes a bar, its count in the answer; bytes after it are unchanged."
pub record KeptList (Leaves : List Triple → Type 0) (bars : List Triple) (out : List ℕ) (n : ℕ) (out' : List ℕ) : Type 0 where
  pub list : List Triple
  pub kept : KeptOf Leaves bars list
  pub count : length list ≡ n
  pub room : n * 3 ≤ length out
  pub written : out' ≡ bytes_of list ++ drop (n * 3) out

-- 02 §8: "A buffer that can't hold the kept list is refused .. and stays unchanged."
pub record KeptBeyond (Leaves : List Triple → Type 0) (bars : List Triple) (out out' : List ℕ) : Type 0 where
  pub list : List Triple
  pub kept : KeptOf Leaves bars list
  pub over : length out < length list * 3
  pub same : out' ≡ out

abbrev pub Finds : (List Triple → Type 0) → List Triple → List ℕ → Finding → List ℕ → Type 0
Finds L bars out Order out' = L bars × (out' ≡ out)
Finds L bars out (Bars n) out' = KeptList L bars out n out'
Finds L bars out Small out' = KeptBeyond L bars out out'
Finds L bars out Unfit out' = ⊥

-- 02 §8: "Scratch is tested first .. its needed part ends zero after a judged call and after 16"; what does not fit changes nothing
pub record Keeps (k m : ℕ) (before bars scratch out : List ℕ) (r : Finding) (scratch' out' : List ℕ) : Type 0 where
  pub fit : Fits k m (length scratch) → Finds (Placeable m before k) (table_bars m bars) out r out' × (scratch' ≡ cleared (bytes_for (m - k)) scratch)
  pub unfit : (Fits k m (length scratch) → ⊥) → (r ≡ Unfit) × (scratch' ≡ scratch) × (out' ≡ out)
