-- The shape of an access: all of it but its bytes (01, "The sheet" and "Relations"). `Shape` is the source's own struct: kind, mode, start,
-- width, tear (0 may tear, 1 tear-free). A byte of the memory, and so a start, is a flat byte: region * 64 + address, below 256; today there is one
-- region, and it is the address. A range lies within its region. Laws: proofs/ShapeLaws.antt.
--     reads writes marks            by its kind                    initial unordered sc    by its mode
--     tear_free                      by its tear                    covers a n              its range holds byte n
--     overlap a b, equal a b        of two ranges                  both_sc a b              both sc with equal ranges
--     divides w s, unbroken w s     of a width and a start         tear_of                  01's rule for tear-free
--     no_shape                       what does nothing
-- Assumes nothing.
use Rattle.std.specs.Prelude.{Bool, cond, ℕ, ◌+◌, ◌%◌, eqb, ltb, leb}
use Rattle.basis.specs.Test.{◌and◌, ◌or◌, non}
use Rattle.format.specs.declared.Shape.{Shape}

abbrev pub no_shape : Shape
no_shape = record { kind = 0; mode = 0; start = 0; width = 0; tear = 0 }

-- 01: "Kinds: 1 read, 2 write, 3 read-modify-write, 4 marker."
unfoldable pub reads : Shape → Bool
reads a = eqb a.kind 1 or eqb a.kind 3

unfoldable pub writes : Shape → Bool
writes a = eqb a.kind 2 or eqb a.kind 3

unfoldable pub marks : Shape → Bool
marks a = eqb a.kind 4

-- 01: "Modes: 0 init, 1 unordered, 2 sequentially consistent (sc)."
unfoldable pub initial : Shape → Bool
initial a = eqb a.mode 0

unfoldable pub unordered : Shape → Bool
unordered a = eqb a.mode 1

unfoldable pub sc : Shape → Bool
sc a = eqb a.mode 2

unfoldable pub tear_free : Shape → Bool
tear_free a = eqb a.tear 1

-- the range holds byte n
unfoldable pub covers : Shape → ℕ → Bool
covers a n = leb a.start n and ltb n (a.start + a.width)

-- 01: "Two ranges overlap when they share at least one byte; equal ranges overlap too, and a marker overlaps nothing."
unfoldable pub overlap : Shape → Shape → Bool
overlap a b = ltb 0 a.width and ltb 0 b.width and ltb a.start (b.start + b.width) and ltb b.start (a.start + a.width)

-- 01: "equal ranges (same start and width)"
unfoldable pub equal : Shape → Shape → Bool
equal a b = eqb a.start b.start and eqb a.width b.width

-- 01: "both events are sc with equal ranges"
unfoldable pub both_sc : Shape → Shape → Bool
both_sc a b = sc a and sc b and equal a b

-- 01: "a start divisible by the width"
unfoldable pub divides : ℕ → ℕ → Bool
divides width start = eqb (start % width) 0

-- 01, and 02 §4: "of width 1, 2 or 4 whose start is divisible by the width"
unfoldable pub unbroken : ℕ → ℕ → Bool
unbroken width start = (eqb width 1 or eqb width 2 or eqb width 4) and divides width start

-- 01: "Tear-free: every sc event; an unordered event of width 1, 2 or 4 whose start is divisible by its width. Inits are not". A marker touches
-- no byte; its tear is 0, as 02 §4 has it.
unfoldable pub tear_of : ℕ → ℕ → ℕ → ℕ → ℕ
tear_of kind mode start width = cond (non (eqb kind 4) and (eqb mode 2 or (eqb mode 1 and unbroken width start))) 1 0
