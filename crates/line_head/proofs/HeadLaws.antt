-- The laws of specs/Head.antt.
--     broken_near       the head of a broken line is at most 64 bytes
--     head_bound        the head of the line of an answer of the code is at most 33 bytes
-- Assumes nothing.
use mathlib.Core.List.{◌++◌}
use Prim.Native.Nat.{ℕ, ◌≤◌}
use native.Mathlib.Omega.{arith}
use lib.ListN.{length, length-append}
use Rattle.std.proofs.Common.{Option, Some, None}
use Rattle.answer.specs.declared.Four.{Four}
use Rattle.answer.specs.declared.Settled.TheVariants.{Orderly, Unsettled}
use Rattle.answer.specs.declared.Answer.{Answer}
use Rattle.answer.specs.declared.Answer.TheVariants.{Refused, Broken, Consistent}
use Rattle.answer.specs.NameOf.{names_of}
use Rattle.answer.specs.Fit.{Below, FourBelow, Fits}
use Rattle.puts.specs.Text.{text}
use Rattle.puts.specs.Numbers.{numbered}
use Rattle.puts.proofs.NumbersLaws.{numbered_length, byte_length}
use Rattle.line_head.specs.Head.{name_text, names_text, head_of}

-- the code's own bound, with numbers of 32 bits
pub broken_near : (n : ℕ) (f : Four) → length (numbered n) ≤ 11 → length (names_text f) ≤ 44 → length (text "broken" ++ numbered n ++ names_text f) ≤ 64
broken_near n f h k =
    omega (arith, h, k, length-append (text "broken" ++ numbered n) (names_text f), length-append (text "broken") (numbered n))

name_bound : (n : Option ℕ) → Below 256 n → length (name_text n) ≤ 4
name_bound (Some k) h = byte_length k h
name_bound None h = omega arith

names_bound : (f : Four) → FourBelow 256 f → length (names_text f) ≤ 16
names_bound f h =
    simp length-append (omega (arith, name_bound f.0 h.first, name_bound f.1 h.second, name_bound f.2 h.third, name_bound f.3 h.fourth))

pub head_bound : (x : Answer) → Fits 256 x → length (head_of x) ≤ 33
head_bound (Refused n p) h =
    simp length-append (omega (arith, byte_length n h.0, numbered_length p h.1))
head_bound (Broken n names) h =
    simp length-append (omega (arith, byte_length n h.0, simp length-append at (names_bound (names_of names) h.1)))
head_bound (Consistent Orderly) h = omega arith
head_bound (Consistent (Unsettled e d)) h =
    simp length-append (omega (arith, byte_length e h.first, byte_length d h.second))
