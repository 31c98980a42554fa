-- `tables::at` meets its contract, by the test. Assumes nothing.
use mathlib.Core.Path.{◌≡◌, sym, ap, ◌∙◌}
use Prim.Native.Nat.{ℕ, ◌%◌}
use native.Mathlib.Nat.{mod-eq_of_lt}
use native.Mathlib.Omega.{arith}
use Rattle.format.specs.declared.Shape.{Shape}
use Rattle.format.specs.Shape.{covers}
use Rattle.sets.specs.Mask.{slots}
use Rattle.tables.specs.Tables.{accesses, shape_in, slot_in}
use Rattle.tables.proofs.TablesLaws.{slot_lt, at_hit, at_miss}
use Rattle.tables.proofs.at.Goals as goal

pub returns-then-covers : goal.returns-then-covers
returns-then-covers c =
    let e = c.args.e % slots in
    let same : c.shape-b.result ≡ shape_in c.args.t.now (slot_in c.args.t.now e c.args.a) =
    c.shape-b.ensures ∙ ap (λ (k : ℕ). shape_in c.args.t.now (k % accesses)) c.slot_at.ensures
    ∙ ap (shape_in c.args.t.now) (mod-eq_of_lt (slot_lt c.args.t.now e c.args.a (omega arith))) in
    let is = sym (ap (λ (s : Shape). covers s c.args.a) same) ∙ sym c.covers.ensures ∙ c.if-covers.true in
    same ∙ sym (at_hit c.args.t.now e c.args.a is)

pub returns : goal.returns
returns c =
    let e = c.args.e % slots in
    let same : c.shape-b.result ≡ shape_in c.args.t.now (slot_in c.args.t.now e c.args.a) =
    c.shape-b.ensures ∙ ap (λ (k : ℕ). shape_in c.args.t.now (k % accesses)) c.slot_at.ensures
    ∙ ap (shape_in c.args.t.now) (mod-eq_of_lt (slot_lt c.args.t.now e c.args.a (omega arith))) in
    let is = sym (ap (λ (s : Shape). covers s c.args.a) same) ∙ sym c.covers.ensures ∙ c.if-covers.false in
    sym (at_miss c.args.t.now e c.args.a is)
