-- What the private steps promise: the same tests by masks. No public contract cites this file. Laws: proofs/MasksLaws.antt. Assumes nothing.
--     Small l                     every number of the list has a place among the slots
--     Stood l j s                 s is the set of the first j numbers
--     Ranked l j earlier          earlier[e] is the set of the numbers that stand before e among the first j
--     lacks a b                   some member of a is none of b
--     late_in all pred earlier l i some event that happens before the one at place i is neither it nor stands before it
--     cross_in .. r v              V, which the row bars, stands after its W and before its R
--     crosses_in .. q j            row j has such a V
--     bar_in m .. q n              what the first of n rows that has one says
--     Named m l                   m events, each once
use Rattle.std.specs.Prelude.{◌≡◌, Bool, false, cond, List, ℕ, ◌%◌, ◌<◌, ◌≤◌, ltb, get_or, length}
use Rattle.std.proofs.Math.Option.{Option, none, some}
use Rattle.std.specs.Int.Bits.{bit_and}
use Rattle.basis.specs.Test.{◌and◌, non, any, from}
use Rattle.sets.specs.Mask.{slots, mem, insert}
use Rattle.cells.specs.First.{first_of}
use Rattle.format.specs.declared.Row.{Row}
use Rattle.tables.specs.Tables.{row_in}
use Rattle.alike.specs.Ranges.{equals_in}
use Rattle.bars.specs.Bars.{mask_in}
use Rattle.log_order.specs.declared.Fault.{Fault}
use Rattle.log_order.specs.declared.Fault.TheVariants.{Barred}
use Rattle.log_order.specs.Listed.{stood, ahead_in, bad_at}

abbrev pub Small : List ℕ → Type 0
Small l = (i : ℕ) → i < length l → get_or l i 0 < slots

abbrev pub Stood : List ℕ → ℕ → ℕ → Type 0
Stood l j s = (e : ℕ) → mem s e ≡ stood l j e

abbrev pub Ranked : List ℕ → ℕ → List ℕ → Type 0
Ranked l j earlier = (e a : ℕ) → e < slots → mem (get_or earlier e 0) a ≡ ahead_in l j a e

unfoldable pub lacks : ℕ → ℕ → Bool
lacks a b = any (λ (d : ℕ). mem a d and non (mem b d)) (from 0 slots)

unfoldable pub late_in : ℕ → List ℕ → List ℕ → List ℕ → ℕ → Bool
late_in all pred earlier l i =
    let x = get_or l i 0 % slots in
    lacks (bit_and (get_or pred x 0) all) (insert (get_or earlier x 0) x)

unfoldable pub cross_in : List ℕ → List ℕ → List ℕ → List ℕ → List ℕ → Row → ℕ → Bool
cross_in t eq succ pred earlier r v =
    mem (bit_and (mask_in t eq succ pred r) (get_or earlier (r.reader % slots) 0)) v and mem (get_or earlier v 0) (r.writer % slots)

unfoldable pub crosses_in : List ℕ → List ℕ → List ℕ → List ℕ → List ℕ → List ℕ → ℕ → Bool
crosses_in t eq succ pred earlier q j = ltb (first_of (cross_in t eq succ pred earlier (row_in q j)) slots) slots

unfoldable pub bar_in : ℕ → List ℕ → List ℕ → List ℕ → List ℕ → List ℕ → ℕ → Option Fault
bar_in m t succ pred earlier q n =
    let eq = equals_in t m in
    let j = first_of (crosses_in t eq succ pred earlier q) n in
    cond (ltb j n) (some (Barred (row_in q j).reader (row_in q j).writer (first_of (cross_in t eq succ pred earlier (row_in q j)) slots) (row_in q j).address)) none

pub record Named (m : ℕ) (l : List ℕ) : Type 0 where
  pub few : m ≤ slots
  pub long : length l ≡ m
  pub numbers : (i : ℕ) → i < length l → bad_at m l i ≡ false
