-- The closure as 02 §3 says that it was worked out: "by trying every triple of events", until none adds anything. "Work a whole row of successors at
-- once. No promise or answer changes": the rows that `close` leaves (Closure.antt) are those. Proved in proofs/TriplesLaws.antt. Assumes nothing.
--     Leads rows e d          row e of the table has d
--     Includes n P rows       the relation P has all that the first n rows have
--     Triples n P             no triple is left: where e leads to m and m to d, e leads to d; e and m below n
--     Tripled n rows rows'    the first n of rows' have what those of rows have and leave no triple, and are the least that do: every relation of which
--                             both are true has all that they have; the others are as they were
--     ByTriples               by rows and by triples: the same
use Rattle.std.specs.Prelude.{◌≡◌, List, ℕ, ◌<◌, get_or, length, drop}
use Rattle.sets.specs.Mask.{Has}
use Rattle.closing.specs.Closure.{Closed}

abbrev pub Leads : List ℕ → ℕ → ℕ → Type 0
Leads rows e d = Has (get_or rows e 0) d

abbrev pub Includes : ℕ → (ℕ → ℕ → Type 0) → List ℕ → Type 0
Includes n P rows = (e d : ℕ) → e < n → Leads rows e d → P e d

abbrev pub Triples : ℕ → (ℕ → ℕ → Type 0) → Type 0
Triples n P = (e m d : ℕ) → e < n → m < n → P e m → P m d → P e d

pub record Tripled (n : ℕ) (rows rows' : List ℕ) : Type 1 where
  pub size : length rows' ≡ length rows
  pub old : Includes n (Leads rows') rows
  pub whole : Triples n (Leads rows')
  pub least : (P : ℕ → ℕ → Type 0) → Includes n P rows → Triples n P → Includes n P rows'
  pub rest : drop n rows' ≡ drop n rows

abbrev pub ByTriples : Type 1
ByTriples = (n : ℕ) (rows rows' : List ℕ) → (Closed n rows rows' → Tripled n rows rows') × (Tripled n rows rows' → Closed n rows rows')
