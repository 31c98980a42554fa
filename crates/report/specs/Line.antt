-- The report line (01, What comes back), as bytes; its head stands in crate line_head. Laws: proofs/LineLaws.antt.
--     told x order      the events that x's line tells: the order where x is consistent, else none
--     line_of x order    the line of x with the order's event numbers
-- Assumes nothing.
use Rattle.std.specs.Prelude.{ℕ, List, [], ◌++◌}
use Rattle.answer.specs.declared.Answer.{Answer}
use Rattle.answer.specs.declared.Answer.TheVariants.{Refused, Broken, Consistent}
use Rattle.puts.specs.Text.{text}
use Rattle.puts.specs.Numbers.{events_text}
use Rattle.line_head.specs.Head.{head_of}

-- 01: "`consistent ..` with the order": other lines have none
abbrev pub told : Answer → List ℕ → List ℕ
told (Refused n p) order = []
told (Broken n names) order = []
told (Consistent s) order = order

-- 01: "one line made of the fixed words of the report line and decimal numbers", "one newline"
unfoldable pub line_of : Answer → List ℕ → List ℕ
line_of x order = head_of x ++ events_text (told x order) ++ text "\n"
