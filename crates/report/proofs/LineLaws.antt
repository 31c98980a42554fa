-- The laws of specs/Line.antt.
--     line_sum          the line's length is that of its parts
--     line_some         a line has at least one byte
--     line_bound        the line of an answer of the code, with an order of bytes, is at most 34 + 4 * n bytes for n events
-- Assumes nothing.
use mathlib.Core.Path.{◌≡◌}
use mathlib.Core.List.{List, [], ◌∷◌, ◌++◌}
use Prim.Native.Nat.{ℕ, suc, ◌+◌, ◌*◌, ◌≤◌, ◌<◌}
use native.Mathlib.Omega.{arith}
use lib.ListN.{length, get_or, length-append}
use Rattle.answer.specs.declared.Answer.{Answer}
use Rattle.answer.specs.declared.Answer.TheVariants.{Refused, Broken, Consistent}
use Rattle.answer.specs.Fit.{Fits}
use Rattle.puts.specs.Text.{text}
use Rattle.puts.specs.Numbers.{numbered, events_text}
use Rattle.puts.proofs.NumbersLaws.{byte_length}
use Rattle.line_head.specs.Head.{head_of}
use Rattle.line_head.proofs.HeadLaws.{head_bound}
use Rattle.report.specs.Line.{told, line_of}

-- ---- the line

pub line_sum : (x : Answer) (order : List ℕ) → length (line_of x order) ≡ length (head_of x) + 1 + length (events_text (told x order))
unfolding line_of
line_sum x order =
    omega (arith, length-append (head_of x ++ events_text (told x order)) (text "\n"), length-append (head_of x) (events_text (told x order)))

pub line_some : (x : Answer) (order : List ℕ) → 0 < length (line_of x order)
line_some x order = omega (arith, line_sum x order)

events_bound : (l : List ℕ) → ((i : ℕ) → get_or l i 0 < 256) → length (events_text l) ≤ 4 * length l
events_bound [] h = omega arith
events_bound (e ∷ l) h =
    omega (arith, length-append (numbered e) (events_text l), byte_length e (h 0), events_bound l (λ i. h (suc i)))

told_bound : (x : Answer) (order : List ℕ) → ((i : ℕ) → get_or order i 0 < 256) → length (events_text (told x order)) ≤ 4 * length order
told_bound (Refused n p) order h = omega arith
told_bound (Broken n names) order h = omega arith
told_bound (Consistent s) order h = events_bound order h

pub line_bound : (x : Answer) (order : List ℕ) → Fits 256 x → ((i : ℕ) → get_or order i 0 < 256) → length (line_of x order) ≤ 34 + 4 * length order
line_bound x order h b = omega (arith, line_sum x order, head_bound x h, told_bound x order b)
