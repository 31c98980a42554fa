-- Sheets and buffers with what is said of them and the kept list, worked out by hand. Computed in proofs/Examples.antt, by one statement.
--     Example, examples     a sheet, how much is lent, the explanation, the kept list's bytes
--     Right                 each is Explained, with the kept list in front of the buffer's rest
-- Event 0 is an init of zeros over the memory; x is byte 0, y byte 1.
-- Assumes nothing.
use Rattle.std.specs.Prelude.{◌≡◌, ℕ, length, drop}
use mathlib.Core.List.{List, [], ◌∷◌, ◌++◌, Memᴰ}
use Rattle.answer.specs.declared.Names.TheVariants.{Row as OfRow, Event as OfEvent}
use Rattle.answer.specs.declared.Settled.TheVariants.{Orderly, Unsettled}
use Rattle.model.specs.Litmus.{unordered, sc, sheet, head, init, read, write, modify, marker, head_2, tear, row, pair}
use Rattle.why.specs.declared.Explanation.{Explanation}
use Rattle.why.specs.declared.Explanation.TheVariants.{Refused, Broken, Consistent, Kept, Small}
use Rattle.why.specs.Explained.{Explained}

pub record Example : Type 0 where
  pub sheet : List ℕ
  -- the lengths of the scratch and of the buffer for the bars
  pub scratch : ℕ
  pub bars : ℕ
  pub answer : Explanation
  pub kept : List ℕ

abbrev pub of : List ℕ → ℕ → ℕ → Explanation → List ℕ → Example
of s scratch bars answer kept = record { sheet = s; scratch = scratch; bars = bars; answer = answer; kept = kept }

-- 01's litmus 7: all sc, A1 x=1, y reads 0; A2 y=1, x reads 0. Two bars, both by (c): 2 read y from 0, 3 may not stand between; 4 read x from 0, 1 may not
abbrev pub buffered : List ℕ
buffered =
    sheet (head 2 2 ∷ init 0 (0 ∷ 0 ∷ []) ∷ write 1 sc 0 (1 ∷ []) ∷ read 1 sc 1 (0 ∷ []) ∷ write 2 sc 1 (1 ∷ []) ∷ read 2 sc 0 (0 ∷ []) ∷ row 2 1 0 ∷ row 4 0 0 ∷ [])

-- 01's litmus 14: two read-modify-writes of x, both read 0
abbrev pub twice : List ℕ
twice = sheet (head 2 1 ∷ init 0 (0 ∷ []) ∷ modify 1 0 (0 ∷ []) (1 ∷ []) ∷ modify 2 0 (0 ∷ []) (2 ∷ []) ∷ row 1 0 0 ∷ row 2 0 0 ∷ [])

-- the same at edition 2, with a marker
abbrev pub twice_2 : List ℕ
twice_2 =
    sheet (head_2 2 1 ∷ tear 0 (init 0 (0 ∷ [])) ∷ tear 1 (modify 1 0 (0 ∷ []) (1 ∷ [])) ∷ tear 0 (marker 2) ∷ tear 1 (modify 2 0 (0 ∷ []) (2 ∷ [])) ∷ row 1 0 0 ∷ row 3 0 0 ∷ [])

-- A1 x=1, A2 x=2, A3 x reads 1 then 2, A4 x reads 2 then 1, all sc: four bars by (a), (3, 1, 2), (4, 2, 1), (5, 2, 1), (6, 1, 2). The first is dropped: 1
-- happens before 4, so (4, 2, 1) puts 1 before 2, and (6, 1, 2) puts 2 before 1. Without (4, 2, 1) 0 2 5 1 3 4 6 is an order. Then the third is dropped.
abbrev pub disagree : List ℕ
disagree =
    sheet (head 4 1 ∷ init 0 (0 ∷ []) ∷ write 1 sc 0 (1 ∷ []) ∷ write 2 sc 0 (2 ∷ []) ∷ read 3 sc 0 (1 ∷ []) ∷ read 3 sc 0 (2 ∷ []) ∷ read 4 sc 0 (2 ∷ []) ∷ read 4 sc 0 (1 ∷ []) ∷ row 3 0 1 ∷ row 4 0 2 ∷ row 5 0 2 ∷ row 6 0 1 ∷ [])

-- A1 x=1 sc, marker; A2 x=2 sc, marker; A3 marker, x reads 1, x reads 2, unordered; pairs (2, 5), (4, 5): both bars by (b)
abbrev pub after_both : List ℕ
after_both =
    sheet (head 3 1 ∷ init 0 (0 ∷ []) ∷ write 1 sc 0 (1 ∷ []) ∷ marker 1 ∷ write 2 sc 0 (2 ∷ []) ∷ marker 2 ∷ marker 3 ∷ read 3 unordered 0 (1 ∷ []) ∷ read 3 unordered 0 (2 ∷ []) ∷ row 6 0 1 ∷ row 7 0 3 ∷ pair 2 5 ∷ pair 4 5 ∷ [])

-- 01's litmus 9 and 8: one of them sees the other; unordered
abbrev pub one_sees : List ℕ
one_sees =
    sheet (head 2 2 ∷ init 0 (0 ∷ 0 ∷ []) ∷ write 1 sc 0 (1 ∷ []) ∷ read 1 sc 1 (1 ∷ []) ∷ write 2 sc 1 (1 ∷ []) ∷ read 2 sc 0 (0 ∷ []) ∷ row 2 1 3 ∷ row 4 0 0 ∷ [])

abbrev pub unsettled : List ℕ
unsettled =
    sheet (head 2 2 ∷ init 0 (0 ∷ 0 ∷ []) ∷ write 1 unordered 0 (1 ∷ []) ∷ read 1 unordered 1 (0 ∷ []) ∷ write 2 unordered 1 (1 ∷ []) ∷ read 2 unordered 0 (0 ∷ []) ∷ row 2 1 0 ∷ row 4 0 0 ∷ [])

-- 01's litmus 2, 3 and 10
abbrev pub rowless : List ℕ
rowless = sheet (head 1 1 ∷ init 0 (0 ∷ []) ∷ read 1 unordered 0 (0 ∷ []) ∷ [])

abbrev pub unlike : List ℕ
unlike = sheet (head 1 1 ∷ init 0 (0 ∷ []) ∷ read 1 unordered 0 (7 ∷ []) ∷ row 1 0 0 ∷ [])

abbrev pub circular : List ℕ
circular =
    sheet (head 2 2 ∷ init 0 (0 ∷ 0 ∷ []) ∷ read 1 sc 0 (1 ∷ []) ∷ write 1 sc 1 (1 ∷ []) ∷ read 2 sc 1 (1 ∷ []) ∷ write 2 sc 0 (1 ∷ []) ∷ row 1 0 4 ∷ row 3 1 2 ∷ [])

unfoldable pub examples : List Example
examples =
    -- the kept list, in a buffer that just holds it, and in a longer one
    of buffered 2 6 (Kept 2) (2 ∷ 0 ∷ 3 ∷ 4 ∷ 0 ∷ 1 ∷ [])
    ∷ of buffered 32768 31944 (Kept 2) (2 ∷ 0 ∷ 3 ∷ 4 ∷ 0 ∷ 1 ∷ [])
    ∷ of twice 1 6 (Kept 2) (1 ∷ 0 ∷ 2 ∷ 2 ∷ 0 ∷ 1 ∷ [])
    ∷ of twice_2 1 7 (Kept 2) (1 ∷ 0 ∷ 3 ∷ 3 ∷ 0 ∷ 1 ∷ [])
    ∷ of disagree 8 6 (Kept 2) (4 ∷ 2 ∷ 1 ∷ 6 ∷ 1 ∷ 2 ∷ [])
    ∷ of after_both 16 6 (Kept 2) (6 ∷ 1 ∷ 3 ∷ 7 ∷ 3 ∷ 1 ∷ [])
    -- a byte too few, and none at all: 16
    ∷ of buffered 2 5 Small []
    ∷ of disagree 8 0 Small []
    -- the scratch before that, and before the rules
    ∷ of buffered 1 0 (Refused 12 0) []
    ∷ of unlike 0 0 (Refused 12 0) []
    -- what the judge says, whatever is lent for bars
    ∷ of one_sees 2 0 (Consistent Orderly) []
    ∷ of unsettled 2 0 (Consistent (Unsettled 1 4)) []
    ∷ of unlike 1 9 (Broken 21 (OfRow 1 0 0)) []
    ∷ of circular 2 6 (Broken 22 (OfEvent 1)) []
    ∷ of rowless 0 0 (Refused 11 15) []
    ∷ of [] 0 0 (Refused 3 0) []
    ∷ []

abbrev pub Right : Type 0
Right = (e : Example) → Memᴰ e examples → (scratch bars : List ℕ) → length scratch ≡ e.scratch → length bars ≡ e.bars
    → (scratch' : List ℕ) × Explained e.sheet scratch bars e.answer scratch' (e.kept ++ drop (length e.kept) bars)
