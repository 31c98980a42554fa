-- `bars::of_row` meets its contract, call by call. Assumes nothing.
use mathlib.Core.Path.{◌≡◌, ap, ◌∙◌}
use Prim.Native.Nat.{ℕ, ◌%◌}
use native.Mathlib.Nat.{mod-eq_of_lt}
use native.Mathlib.Omega.{arith}
use Rattle.sets.specs.Mask.{slots}
use Rattle.tables.specs.Tables.{accesses, slot_in}
use Rattle.tables.proofs.TablesLaws.{slot_lt}
use Rattle.bars.specs.Bars.{mask_in}
use Rattle.bars.proofs.of_row.Goals as goal

pub offset_bounds-eq-i : goal.offset_bounds-eq-i
offset_bounds-eq-i c =
    let s = slot_lt c.args.t.now (c.args.r.reader % slots % slots) c.args.r.address (omega arith) in omega (arith, c.slot_at-i.ensures)

pub bounds-eq-i : goal.bounds-eq-i
bounds-eq-i c =
    let s = slot_lt c.args.t.now (c.args.r.reader % slots % slots) c.args.r.address (omega arith) in omega (arith, c.slot_at-i.ensures)

pub offset_bounds-eq-j : goal.offset_bounds-eq-j
offset_bounds-eq-j c =
    let s = slot_lt c.args.t.now (c.args.r.writer % slots % slots) c.args.r.address (omega arith) in omega (arith, c.slot_at-j.ensures)

pub bounds-eq-j : goal.bounds-eq-j
bounds-eq-j c =
    let s = slot_lt c.args.t.now (c.args.r.writer % slots % slots) c.args.r.address (omega arith) in omega (arith, c.slot_at-j.ensures)

pub returns : goal.returns
unfolding mask_in
returns c =
    let t = c.args.t.now in
    let r = c.args.r.reader % slots in
    let w = c.args.r.writer % slots in
    let a = c.args.r.address in
    let rr : r % slots ≡ r = mod-eq_of_lt (omega arith) in
    let ww : w % slots ≡ w = mod-eq_of_lt (omega arith) in
    let i : c.slot_at-i.result ≡ slot_in t r a = c.slot_at-i.ensures ∙ ap (λ (x : ℕ). slot_in t x a) rr in
    let j : c.slot_at-j.result ≡ slot_in t w a = c.slot_at-j.ensures ∙ ap (λ (x : ℕ). slot_in t x a) ww in
    let ii : slot_in t r a % accesses ≡ slot_in t r a = mod-eq_of_lt (slot_lt t r a (omega arith)) in
    let jj : slot_in t w a % accesses ≡ slot_in t w a = mod-eq_of_lt (slot_lt t w a (omega arith)) in
    simp (c.without-2.ensures, c.without.ensures, c.reasons-m.ensures, c.has.ensures, c.shape.ensures, c.shape-2.ensures, i, j, ii, jj, rr, ww)
