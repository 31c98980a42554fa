-- `sift::barred` meets its contract, call by call: what `bars::first_row` and `late` do, by the sets of events. Assumes nothing.
use mathlib.Core.Path.{◌≡◌, sym, ap, ◌∙◌}
use Prim.Native.Nat.{ℕ, ◌*◌, ◌%◌}
use native.Mathlib.Nat.{mod-eq_of_lt}
use native.Mathlib.Omega.{arith}
use lib.ListN.{get_or}
use Rattle.basis.specs.Test.{◌and◌, non}
use Rattle.sets.specs.Mask.{slots, mem}
use Rattle.format.specs.Shape.{sc}
use Rattle.tables.specs.Tables.{accesses, shape_in, slot_in}
use Rattle.bars.specs.Bars.{mask_in}
use Rattle.bars.specs.Listed.{gone_in}
use Rattle.bars.proofs.CoveredLaws.{covered_reader, covered_writer}
use Rattle.sift.specs.steps.Alikes.{Bare}
use Rattle.sift.proofs.AlikesLaws.{agree_reader, agree_writer}
use Rattle.sift.proofs.barred.Goals as goal

pub returns : goal.returns
unfolding mask_in
returns c =
    λ h eqs agree v.
    let a = c.args in
    let p = agree_reader agree a.r h in
    let s = agree_writer agree a.r h in
    let t = a.t.now in
    let r = a.r.reader % slots in
    let w = a.r.writer % slots in
    let rr : r % slots ≡ r = mod-eq_of_lt (omega arith) in
    let ww : w % slots ≡ w = mod-eq_of_lt (omega arith) in
    let i : slot_in t r a.r.address ≡ 2 * r = covered_reader t a.r h in
    let j : slot_in t w a.r.address ≡ 2 * w = covered_writer t a.r h in
    let ii : (2 * r) % accesses ≡ 2 * r = mod-eq_of_lt (omega arith) in
    let jj : (2 * w) % accesses ≡ 2 * w = mod-eq_of_lt (omega arith) in
    let bare-r : Bare c.shape.result (get_or a.eq.now r 0) = λ z. p ∙ agree.bare r (omega arith) (ap sc (sym (c.shape.ensures ∙ ap (shape_in t) ii)) ∙ z) in
    let bare-w : Bare c.shape-2.result (get_or a.eq.now w 0) = λ z. s ∙ agree.bare w (omega arith) (ap sc (sym (c.shape-2.ensures ∙ ap (shape_in t) jj)) ∙ z) in
    let is : c.without-2.result ≡ mask_in t eqs a.succ.now a.pred.now a.r = simp (c.without-2.ensures, c.without.ensures, c.reasons-m.ensures bare-r bare-w, c.has.ensures, c.shape.ensures, c.shape-2.ensures, i, j, ii, jj, rr, ww, p, s) in
    c.late.ensures v ∙ ap (λ (x : ℕ). mem x v and non (gone_in a.k a.pred.now (w % slots) v)) is ∙ ap (λ (x : ℕ). mem (mask_in t eqs a.succ.now a.pred.now a.r) v and non (gone_in a.k a.pred.now x v)) ww
