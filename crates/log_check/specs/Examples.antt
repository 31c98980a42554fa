-- Sheets and lists with what is said of them, written out by hand: each fault, the order of the tests, and each of (a), (b), (c) alone. Computed in
-- proofs/Examples.antt, by one statement.
--     Example, examples     a sheet, a list, the reply
--     Right                 each is Checked
-- Event 0 is an init of zeros over the memory; x is byte 0, y byte 1.
-- Assumes nothing.
use mathlib.Core.List.{List, [], ◌∷◌, Memᴰ}
use Rattle.std.specs.Prelude.{ℕ}
use Rattle.answer.specs.declared.Names.TheVariants.{Row as OfRow, Torn}
use Rattle.model.specs.Litmus.{unordered, sc, sheet, head, init, read, write, marker, head_2, tear, row, pair}
use Rattle.log_order.specs.declared.Fault.{Fault}
use Rattle.log_order.specs.declared.Fault.TheVariants.{WrongLength, BadNumber, TooEarly, Barred}
use Rattle.std.specs.Prelude.{Ok, Err}
use Rattle.log_check.specs.declared.Reply.{Reply}
use Rattle.log_check.specs.declared.Reply.TheVariants.{Refused, Broken, Listed}
use Rattle.log_check.specs.Checked.{Checked}

pub record Example : Type 0 where
  pub sheet : List ℕ
  pub list : List ℕ
  pub reply : Reply

abbrev pub of : List ℕ → List ℕ → Reply → Example
of s l r = record { sheet = s; list = l; reply = r }

abbrev pub accepted : Reply
accepted = Listed (Ok tt)

abbrev pub not : Fault → Reply
not f = Listed (Err f)

-- A1 x=1 sc, A2 x=2 sc, A3 x reads 1 sc: event 2 may not stand between 1 and 3, by (a)
abbrev pub a : List ℕ
a = sheet (head 3 1 ∷ init 0 (0 ∷ []) ∷ write 1 sc 0 (1 ∷ []) ∷ write 2 sc 0 (2 ∷ []) ∷ read 3 sc 0 (1 ∷ []) ∷ row 3 0 1 ∷ [])

-- the same over two bytes at edition 2: two rows of one reader and one writer
abbrev pub wide : List ℕ
wide =
    sheet (head_2 3 2 ∷ tear 0 (init 0 (0 ∷ 0 ∷ [])) ∷ tear 1 (write 1 sc 0 (1 ∷ 1 ∷ [])) ∷ tear 1 (write 2 sc 0 (2 ∷ 2 ∷ [])) ∷ tear 1 (read 3 sc 0 (1 ∷ 1 ∷ [])) ∷ row 3 0 1 ∷ row 3 1 1 ∷ [])

-- A1 x=1, A2 x=2 then x=3, A3 x reads 1 twice, all sc: two rows, and two V
abbrev pub twice : List ℕ
twice =
    sheet (head 3 1 ∷ init 0 (0 ∷ []) ∷ write 1 sc 0 (1 ∷ []) ∷ write 2 sc 0 (2 ∷ []) ∷ write 2 sc 0 (3 ∷ []) ∷ read 3 sc 0 (1 ∷ []) ∷ read 3 sc 0 (1 ∷ []) ∷ row 4 0 1 ∷ row 5 0 1 ∷ [])

-- 01's litmus 15: A1 x=1 sc, marker; A2 x=2 sc, marker; A3 marker, x reads 1 unordered; pairs (2, 5), (4, 5): (b)
abbrev pub markers : List ℕ
markers =
    sheet (head 3 1 ∷ init 0 (0 ∷ []) ∷ write 1 sc 0 (1 ∷ []) ∷ marker 1 ∷ write 2 sc 0 (2 ∷ []) ∷ marker 2 ∷ marker 3 ∷ read 3 unordered 0 (1 ∷ []) ∷ row 6 0 1 ∷ pair 2 5 ∷ pair 4 5 ∷ [])

-- 01's litmus 7: all sc, A1 x=1, y reads 0; A2 y=1, x reads 0: (c), and no order is accepted
abbrev pub buffered : List ℕ
buffered =
    sheet (head 2 2 ∷ init 0 (0 ∷ 0 ∷ []) ∷ write 1 sc 0 (1 ∷ []) ∷ read 1 sc 1 (0 ∷ []) ∷ write 2 sc 1 (1 ∷ []) ∷ read 2 sc 0 (0 ∷ []) ∷ row 2 1 0 ∷ row 4 0 0 ∷ [])

-- 01's litmus 2, 3 and 12
abbrev pub rowless : List ℕ
rowless = sheet (head 1 1 ∷ init 0 (0 ∷ []) ∷ read 1 unordered 0 (0 ∷ []) ∷ [])

abbrev pub unlike : List ℕ
unlike = sheet (head 1 1 ∷ init 0 (0 ∷ []) ∷ read 1 unordered 0 (7 ∷ []) ∷ row 1 0 0 ∷ [])

abbrev pub torn : List ℕ
torn =
    sheet (head 3 2 ∷ init 0 (0 ∷ 0 ∷ []) ∷ write 1 unordered 0 (1 ∷ 1 ∷ []) ∷ write 2 unordered 0 (2 ∷ 2 ∷ []) ∷ read 3 unordered 0 (1 ∷ 2 ∷ []) ∷ row 3 0 1 ∷ row 3 1 2 ∷ [])

unfoldable pub examples : List Example
examples =
    -- the order that the judge reports, and another
    of a (0 ∷ 1 ∷ 3 ∷ 2 ∷ []) accepted
    ∷ of a (0 ∷ 2 ∷ 1 ∷ 3 ∷ []) accepted
    -- wrong length, before all else
    ∷ of a [] (not (WrongLength 0))
    ∷ of a (0 ∷ 1 ∷ 3 ∷ []) (not (WrongLength 3))
    ∷ of a (0 ∷ 1 ∷ 3 ∷ 2 ∷ 0 ∷ []) (not (WrongLength 5))
    ∷ of a (4 ∷ 4 ∷ []) (not (WrongLength 2))
    -- out of range; repeated, at the second; the first of both kinds; before happens-before
    ∷ of a (0 ∷ 1 ∷ 4 ∷ 3 ∷ []) (not (BadNumber 2))
    ∷ of a (0 ∷ 1 ∷ 3 ∷ 255 ∷ []) (not (BadNumber 3))
    ∷ of a (0 ∷ 1 ∷ 3 ∷ 3 ∷ []) (not (BadNumber 3))
    ∷ of a (3 ∷ 3 ∷ 4 ∷ 0 ∷ []) (not (BadNumber 1))
    ∷ of a (1 ∷ 0 ∷ 3 ∷ 3 ∷ []) (not (BadNumber 3))
    -- an event before one that happens before it: an init, its agent's, by synchronisation; before the rows
    ∷ of a (1 ∷ 0 ∷ 3 ∷ 2 ∷ []) (not (TooEarly 0))
    ∷ of a (0 ∷ 3 ∷ 1 ∷ 2 ∷ []) (not (TooEarly 1))
    ∷ of a (0 ∷ 2 ∷ 3 ∷ 1 ∷ []) (not (TooEarly 2))
    ∷ of twice (0 ∷ 1 ∷ 3 ∷ 2 ∷ 4 ∷ 5 ∷ []) (not (TooEarly 2))
    ∷ of a (1 ∷ 2 ∷ 3 ∷ 0 ∷ []) (not (TooEarly 0))
    -- the first row, its lowest V
    ∷ of a (0 ∷ 1 ∷ 2 ∷ 3 ∷ []) (not (Barred 3 1 2 0))
    ∷ of wide (0 ∷ 1 ∷ 2 ∷ 3 ∷ []) (not (Barred 3 1 2 0))
    ∷ of twice (0 ∷ 1 ∷ 2 ∷ 3 ∷ 4 ∷ 5 ∷ []) (not (Barred 4 1 2 0))
    ∷ of twice (0 ∷ 2 ∷ 1 ∷ 3 ∷ 4 ∷ 5 ∷ []) (not (Barred 4 1 3 0))
    ∷ of twice (0 ∷ 1 ∷ 4 ∷ 2 ∷ 3 ∷ 5 ∷ []) (not (Barred 5 1 2 0))
    ∷ of twice (0 ∷ 1 ∷ 4 ∷ 5 ∷ 2 ∷ 3 ∷ []) accepted
    -- (b) alone, (c) alone
    ∷ of markers (0 ∷ 1 ∷ 2 ∷ 3 ∷ 4 ∷ 5 ∷ 6 ∷ []) (not (Barred 6 1 3 0))
    ∷ of markers (0 ∷ 3 ∷ 1 ∷ 2 ∷ 4 ∷ 5 ∷ 6 ∷ []) accepted
    ∷ of buffered (0 ∷ 1 ∷ 2 ∷ 3 ∷ 4 ∷ []) (not (Barred 4 0 1 0))
    ∷ of buffered (0 ∷ 3 ∷ 4 ∷ 1 ∷ 2 ∷ []) (not (Barred 2 0 3 1))
    -- the sheet first: refused, and broken by 21 and by 25, whatever the list
    ∷ of [] [] (Refused 3 0)
    ∷ of rowless (0 ∷ 1 ∷ []) (Refused 11 15)
    ∷ of unlike [] (Broken 21 (OfRow 1 0 0))
    ∷ of torn (0 ∷ 1 ∷ 2 ∷ 3 ∷ []) (Broken 25 (Torn 3 1 2))
    ∷ []

abbrev pub Right : Type 0
Right = (e : Example) → Memᴰ e examples → Checked e.sheet e.list e.reply
