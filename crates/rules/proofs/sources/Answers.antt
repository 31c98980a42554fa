-- `rules::sources` meets its contract: the sources of the first j rows are noted. The measure is what is left. Assumes nothing.
use mathlib.Core.Path.{◌≡◌, ap, ◌∙◌}
use Prim.Native.Nat.{ℕ, min}
use native.Mathlib.Omega.{arith}
use Rattle.tables.specs.Tables.{row_room}
use Rattle.tables.proofs.TablesLaws.{row_at_lem}
use Rattle.torn.specs.Torn.{sources_in}
use Rattle.torn.proofs.TornLaws.{sources_none, sources_next}
use Rattle.rules.proofs.sources.Goals as goal

pub loop-j-init : goal.loop-j-init
loop-j-init c = (omega arith, omega arith, sources_none c.args.t.now c.args.q.now _)

pub loop-j-preserved : goal.loop-j-preserved
loop-j-preserved c =
    let l = c.loop-j in
    let a = c.args in
    let at = row_at_lem a.q.now l.j (omega arith) c.row.result c.row.ensures in (
      omega arith,
      l.invariant.1,
      sources_next a.t.now a.q.now a.masks.now l.j c.row.result l.masks _ at l.invariant.2 c.note_row.ensures,
    )

pub returns : goal.returns
returns c =
    let l = c.loop-j in
    let a = c.args in
    let z = c.least-m.ensures in
    let e : l.j ≡ min a.n row_room = omega arith in
    l.invariant.2 ∙ ap (λ (i : ℕ). sources_in a.t.now a.q.now i a.masks.now) e
