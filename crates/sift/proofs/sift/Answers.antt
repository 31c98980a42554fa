-- `sift::sift` meets its contract: clean tables are told by their parts, and the laws of Clean do the rest. Assumes nothing.
use mathlib.Core.Path.{◌≡◌, refl, ap}
use mathlib.Core.Bool.{Bool, true, false, ◌&&◌}
use Prim.Native.Nat.{◌≤◌, min}
use Rattle.std.specs.Prelude.{is_some}
use native.Mathlib.Omega.{arith}
use borrow.Author.Tests.{eqb-true, eqb-false}
use lib.Dec.{eqb}
use Rattle.basis.proofs.BoolLaws.{not_both_ways}
use Rattle.sets.specs.Mask.{slots}
use Rattle.sets.specs.Tells.{Tells}
use Rattle.tables.specs.Tables.{row_room}
use Rattle.own.specs.Lone.{Lone}
use Rattle.alike.specs.Ranges.{equals_in}
use Rattle.sift.proofs.AlikesLaws.{alikes_agree}
use Rattle.sift.proofs.NearLaws.{telling}
use Rattle.sift.proofs.CleanLaws.{clean_tells, clean_kept}
use Rattle.sift.proofs.sift.Goals as goal

-- two tests together, of which the second is known
both_on : (b c : Bool) {P : Type 0} → c ≡ true → Tells (b && c) P → Tells b P
both_on true true h t = t
both_on true false h t = absurd (not_both_ways h refl)
both_on false c h t = t

both_off : (b c : Bool) {P : Type 0} → c ≡ false → Tells (b && c) P → Tells false P
both_off true false h t = t
both_off true true h t = absurd (not_both_ways refl h)
both_off false c h t = t

pub returns-then-clean : goal.returns-then-clean
returns-then-clean c =
    let a = c.args in
    let t = a.t.now in
    let succ = a.succ.now in
    let pred = a.pred.now in
    let q = a.q.now in
    let n = min a.events slots in
    let m = min a.rows row_room in
    let noted = c.note-seen.ensures in
    let few : n ≤ slots = omega arith in
    let room : m ≤ row_room = omega arith in
    let tell = telling few noted c.near.ensures c.full.result c.full.ensures in
    let alone : Tells (eqb c.note-seen.result.seconds 0) (Lone t n) = record { holds = λ h. noted.lone (eqb-true _ 0 h); fails = λ h g. eqb-false _ 0 h (noted.none g) } in
    let tells = both_on (is_some c.pass-listed.result) _ c.if-clean.true (clean_tells t succ pred _ _ q n m (is_some c.pass-listed.result) (eqb c.note-seen.result.seconds 0) c.cyclic.result c.pass-listed.ensures.is alone c.cyclic.ensures) in
    record {
      far = _;
      bytes = _;
      telling = tell;
      is = tells;
      kept = λ h. clean_kept t succ pred _ _ q n m few room tell (tells.holds h);
      listed = λ k h. c.pass-listed.ensures.listed k h (equals_in t n) (alikes_agree few noted (tells.holds (ap is_some h)).lone _ c.alikes.ensures);
    }

pub returns-else-clean : goal.returns-else-clean
returns-else-clean c =
    let a = c.args in
    let t = a.t.now in
    let succ = a.succ.now in
    let pred = a.pred.now in
    let q = a.q.now in
    let n = min a.events slots in
    let m = min a.rows row_room in
    let noted = c.note-seen.ensures in
    let few : n ≤ slots = omega arith in
    let room : m ≤ row_room = omega arith in
    let tell = telling few noted c.near.ensures c.full.result c.full.ensures in
    let alone : Tells (eqb c.note-seen.result.seconds 0) (Lone t n) = record { holds = λ h. noted.lone (eqb-true _ 0 h); fails = λ h g. eqb-false _ 0 h (noted.none g) } in
    let tells = both_off (is_some c.pass-listed.result) _ c.if-clean.false (clean_tells t succ pred _ _ q n m (is_some c.pass-listed.result) (eqb c.note-seen.result.seconds 0) c.cyclic.result c.pass-listed.ensures.is alone c.cyclic.ensures) in
    record {
      far = _;
      bytes = _;
      telling = tell;
      is = tells;
      kept = λ h. absurd (not_both_ways h refl);
      listed = λ k h. absurd (cc);
    }
