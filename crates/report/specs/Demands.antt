-- Promises of the report line that no single function makes. Proved in proofs/Demands.antt.
--     Agree         two results for one answer, one order and one buffer are equal, the buffer too
--     LongEnough    a buffer of 34 + 4 * n bytes holds every line that the code can be asked for, with an order of n events
--     Readable      the decimal digits tell the number
-- Assumes nothing.
use Rattle.std.specs.Prelude.{◌≡◌, List, ℕ, ◌+◌, ◌*◌, ◌≤◌, ◌<◌, length, get_or}
use Rattle.answer.specs.declared.Answer.{Answer}
use Rattle.answer.specs.Fit.{Fits}
use Rattle.puts.specs.Decimal.{decimal}
use Rattle.report.specs.Line.{line_of}
use Rattle.report.specs.Lined.{Lined}

-- 01: "That any two conforming answers agree is itself proved"
abbrev pub Agree : Type 0
Agree = (x : Answer) (order entry : List ℕ) (r s : ℕ) (exit exit' : List ℕ) → Lined x order entry r exit → Lined x order entry s exit' → (r ≡ s) × (exit ≡ exit')

abbrev pub LongEnough : Type 0
LongEnough = (x : Answer) (order : List ℕ) → Fits 256 x → ((i : ℕ) → get_or order i 0 < 256) → length (line_of x order) ≤ 34 + 4 * length order

abbrev pub Readable : Type 0
Readable = (n m : ℕ) → decimal n ≡ decimal m → n ≡ m
