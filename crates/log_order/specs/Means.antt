-- What each fault says of the list, in the words of 02 §5 and by crate orders' In, Precedes and Distinct: the first of its kind, and nothing that is
-- tested before it is at fault. Laws: proofs/MeansLaws.antt. Assumes nothing.
--     Once n l                 the list names each of n events once
--     Bad n l i                the number at place i is out of range or stands before
--     Early c l i              the event at place i comes before one that happens before it
--     Crossed c l r v          in the order V stands after W and before R of the row r, which bars it
--     Means c l f              what the fault f says
use Rattle.std.specs.Prelude.{ℕ, ◌<◌, ◌≤◌, min, ◌≡◌, ◌⊎◌, List, T, length, get_or}
use Rattle.format.specs.declared.Row.{Row}
use Rattle.format.specs.Execution.{blank_row}
use Rattle.orders.specs.Order.{In, Precedes, Distinct}
use Rattle.log_order.specs.declared.Fault.{Fault}
use Rattle.log_order.specs.declared.Fault.TheVariants.{WrongLength, BadNumber, TooEarly, Barred}
use Rattle.log_order.specs.Listed.{Trial, longest}

-- 02 §5: "the list names every event once"
pub record Once (n : ℕ) (l : List ℕ) : Type 0 where
  pub events : (e : ℕ) → In e l → e < n
  pub all : (e : ℕ) → e < n → In e l
  pub once : Distinct l

abbrev pub Bad : ℕ → List ℕ → ℕ → Type 0
Bad n l i = (n ≤ get_or l i 0) ⊎ ((k : ℕ) × (k < i) × (get_or l k 0 ≡ get_or l i 0))

abbrev pub Early : Trial → List ℕ → ℕ → Type 0
Early c l i = (d : ℕ) × T (c.before d (get_or l i 0)) × Precedes (get_or l i 0) d l

abbrev pub Crossed : Trial → List ℕ → Row → ℕ → Type 0
Crossed c l r v = Precedes r.writer v l × Precedes v r.reader l × T (c.bars r v)

-- "wrong length"
pub record IsWrong (n : ℕ) (l : List ℕ) (k : ℕ) : Type 0 where
  pub wrong : length l ≡ n → ⊥
  pub told : k ≡ min (length l) longest

-- "then the first place with a number out of range or repeated"
pub record IsBad (n : ℕ) (l : List ℕ) (i : ℕ) : Type 0 where
  pub long : length l ≡ n
  pub place : i < length l
  pub bad : Bad n l i
  pub first : (k : ℕ) → k < i → Bad n l k → ⊥

-- "then the first place where an event comes before one that happens before it"
pub record IsEarly (c : Trial) (l : List ℕ) (i : ℕ) : Type 0 where
  pub events : Once c.events l
  pub place : i < length l
  pub early : Early c l i
  pub first : (k : ℕ) → k < i → Early c l k → ⊥

-- "then the first row and lowest V that break (a), (b) or (c)": row number `number`, and V
pub record IsBarred (c : Trial) (l : List ℕ) (r : Row) (v : ℕ) : Type 0 where
  pub events : Once c.events l
  pub kept : (a b : ℕ) → T (c.before a b) → Precedes a b l
  pub number : ℕ
  pub there : number < length c.rows
  pub row : get_or c.rows number blank_row ≡ r
  pub crossed : Crossed c l r v
  pub first : (i : ℕ) → i < number → (u : ℕ) → Crossed c l (get_or c.rows i blank_row) u → ⊥
  pub lowest : (u : ℕ) → u < v → Crossed c l r u → ⊥

abbrev pub Means : Trial → List ℕ → Fault → Type 0
Means c l (WrongLength k) = IsWrong c.events l k
Means c l (BadNumber i) = IsBad c.events l i
Means c l (TooEarly i) = IsEarly c l i
Means c l (Barred r w v a) = IsBarred c l (record { reader = r; address = a; writer = w }) v
