-- The other way of the writer (02 §2: "Reading what was written gives the table back"): the table of a sheet, into lent buffers, for suites that mend
-- old sheets. `Lent` is a Result: `unlent` with number and place, `given` with the numbers of events, data bytes, rows and pairs.
-- Laws: proofs/LendingLaws.antt.
--     short_of l b                           the first buffer of b that is shorter than its slice of l; `no_buffer` where none is
--     lent_by, held_by                        the answer and the buffers, by what the sheet says and what is lent
--     Lending s entry r exit                r is the answer for the sheet s, and the buffers hold its table
-- Assumes nothing.
use Rattle.std.specs.Prelude.{◌≡◌, cond, List, ℕ, ltb, length, Result, Ok, Err}
use Rattle.format.specs.Execution.{Execution}
use Rattle.parse.specs.Parse.{Parsed, refused, whole, parse}
use Rattle.encode.specs.Table.{table_of}
use Rattle.puts.specs.Put.{overlaid}
use Rattle.encode.specs.Lend.{Slices, five, slices_of}
use Rattle.lend.specs.declared.Amounts.{Amounts}
use Rattle.lend.specs.declared.Unlent.{Unlent}

abbrev pub Lent : Type 0
Lent = Result Amounts Unlent

abbrev pub unlent : ℕ → ℕ → Lent
unlent n p = Err (record { number = n; place = p })

abbrev pub given : ℕ → ℕ → ℕ → ℕ → Lent
given e d r p = Ok (record { events = e; bytes = d; rows = r; pairs = p })

-- the number that is no buffer's
abbrev pub no_buffer : ℕ
no_buffer = 5

-- the bytes that are asked for, then those that are lent: 0 head, 1 events, 2 data, 3 rows, 4 pairs
unfoldable pub short_by : ℕ → ℕ → ℕ → ℕ → ℕ → ℕ → ℕ → ℕ → ℕ → ℕ → ℕ
short_by h e d r p head events bytes rows pairs =
    cond (ltb head h) 0
    (cond (ltb events e) 1
    (cond (ltb bytes d) 2
    (cond (ltb rows r) 3
    (cond (ltb pairs p) 4 no_buffer))))

abbrev pub short_of : Slices → Slices → ℕ
short_of l b =
    short_by (length l.head) (length l.events) (length l.bytes) (length l.rows) (length l.pairs)
    (length b.head) (length b.events) (length b.bytes) (length b.rows) (length b.pairs)

-- 02 §2: "15 .. if the buffer is shorter than the sheet": here the place is the buffer's number
abbrev pub answer_of : Execution → ℕ → Lent
answer_of x k =
    cond (ltb k no_buffer) (unlent 15 k)
    (given (length x.events) (length (slices_of (table_of x)).bytes) (length x.rows) (length x.pairs))

abbrev pub lent_by : Parsed → Slices → Lent
lent_by (refused n p) b = unlent n p
lent_by (whole x) b = answer_of x (short_of (slices_of (table_of x)) b)

-- 02 §2: "bytes after the sheet are unchanged"
abbrev pub filled_by : Slices → Slices → Slices
filled_by l b = five (overlaid l.head b.head) (overlaid l.events b.events) (overlaid l.bytes b.bytes) (overlaid l.rows b.rows) (overlaid l.pairs b.pairs)

-- 02 §2: "A refused call leaves the buffer unchanged"
abbrev pub held_by : Parsed → Slices → Slices
held_by (refused n p) b = b
held_by (whole x) b = cond (ltb (short_of (slices_of (table_of x)) b) no_buffer) b (filled_by (slices_of (table_of x)) b)

pub record Lending (s : List ℕ) (entry : Slices) (r : Lent) (exit : Slices) : Type 0 where
  pub answer : r ≡ lent_by (parse s) entry
  pub buffers : exit ≡ held_by (parse s) entry
