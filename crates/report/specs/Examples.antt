-- Lines that 01 prints, with the answers that they are the lines of. proofs/Examples.antt computes them.
--     examples    an entry for each
--     Right       every entry's line is the definition's
-- Assumes nothing.
use Rattle.std.specs.Prelude.{ℕ, ◌≡◌, List, [], ◌∷◌, map}
use Prim.Native.String.{String}
use Rattle.answer.specs.declared.Names.TheVariants.{Row, Event, Between, Torn, Nobody}
use Rattle.answer.specs.declared.Settled.TheVariants.{Orderly, Unsettled}
use Rattle.answer.specs.declared.Answer.{Answer}
use Rattle.answer.specs.declared.Answer.TheVariants.{Refused, Broken, Consistent}
use Rattle.puts.specs.Text.{text}
use Rattle.report.specs.Line.{line_of}

pub record Example : Type 0 where
  pub answer : Answer
  pub order : List ℕ
  pub line : String

abbrev pub entry : Answer → List ℕ → String → Example
entry x order line = record { answer = x; order = order; line = line }

-- litmus 1, 2, 3, 4, 6, 7, 9, 10, 11, 12, 15; the last of "Mistakes that look right"; then what no litmus entry shows
abbrev pub examples : List Example
examples =
    entry (Consistent Orderly) (0 ∷ 1 ∷ []) "consistent orderly then 0 1\n"
    ∷ entry (Refused 11 15) [] "refused 11 at 15\n"
    ∷ entry (Broken 21 (Row 1 0 0)) [] "broken 21 1 0 - 0\n"
    ∷ entry (Broken 24 (Between 4 0 1 0)) [] "broken 24 4 0 1 0\n"
    ∷ entry (Consistent (Unsettled 1 4)) (0 ∷ 1 ∷ 2 ∷ 3 ∷ 4 ∷ []) "consistent unsettled 1 4 then 0 1 2 3 4\n"
    ∷ entry (Broken 26 Nobody) [] "broken 26 - - - -\n"
    ∷ entry (Consistent Orderly) (0 ∷ 3 ∷ 4 ∷ 1 ∷ 2 ∷ []) "consistent orderly then 0 3 4 1 2\n"
    ∷ entry (Broken 22 (Event 1)) [] "broken 22 1 - - -\n"
    ∷ entry (Broken 23 (Row 1 2 0)) [] "broken 23 1 2 - 0\n"
    ∷ entry (Broken 25 (Torn 3 1 2)) [] "broken 25 3 1 2 -\n"
    ∷ entry (Consistent Orderly) (0 ∷ 3 ∷ 1 ∷ 2 ∷ 4 ∷ 5 ∷ 6 ∷ []) "consistent orderly then 0 3 1 2 4 5 6\n"
    ∷ entry (Consistent (Unsettled 1 2)) (0 ∷ 1 ∷ 2 ∷ []) "consistent unsettled 1 2 then 0 1 2\n"
    ∷ entry (Refused 1 0) (7 ∷ []) "refused 1 at 0\n"
    ∷ entry (Refused 9 4096) [] "refused 9 at 4096\n"
    ∷ entry (Broken 24 (Between 19 10 9 63)) (7 ∷ []) "broken 24 19 10 9 63\n"
    ∷ entry (Consistent Orderly) [] "consistent orderly then\n"
    ∷ entry (Consistent (Unsettled 9 10)) (9 ∷ 10 ∷ 99 ∷ 100 ∷ 255 ∷ []) "consistent unsettled 9 10 then 9 10 99 100 255\n"
    ∷ []

abbrev pub Right : Type 0
Right = map (λ (e : Example). line_of e.answer e.order) examples ≡ map (λ (e : Example). text e.line) examples
