-- `tables::slot_at` meets its contract, by the test. Assumes nothing.
use mathlib.Core.Path.{◌≡◌, sym, ap, ◌∙◌}
use Prim.Native.Nat.{◌*◌, ◌%◌}
use native.Mathlib.Nat.{mod-eq_of_lt}
use native.Mathlib.Omega.{arith}
use Rattle.format.specs.declared.Shape.{Shape}
use Rattle.format.specs.Shape.{covers}
use Rattle.sets.specs.Mask.{slots}
use Rattle.tables.specs.Tables.{shape_in}
use Rattle.tables.proofs.TablesLaws.{slot_first, slot_second}
use Rattle.tables.proofs.slot_at.Goals as goal

pub returns-then-covers : goal.returns-then-covers
returns-then-covers c =
    let e = c.args.e % slots in
    let is : c.covers.result ≡ covers (shape_in c.args.t.now (2 * e)) c.args.a =
    c.covers.ensures ∙ ap (λ (s : Shape). covers s c.args.a) (c.shape.ensures ∙ ap (shape_in c.args.t.now) (mod-eq_of_lt (omega arith))) in
    sym (slot_first c.args.t.now e c.args.a (sym is ∙ c.if-covers.true))

pub returns-else-covers : goal.returns-else-covers
returns-else-covers c =
    let e = c.args.e % slots in
    let is : c.covers.result ≡ covers (shape_in c.args.t.now (2 * e)) c.args.a =
    c.covers.ensures ∙ ap (λ (s : Shape). covers s c.args.a) (c.shape.ensures ∙ ap (shape_in c.args.t.now) (mod-eq_of_lt (omega arith))) in
    sym (slot_second c.args.t.now e c.args.a (sym is ∙ c.if-covers.false))
