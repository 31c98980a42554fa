-- `before::add_seen` meets its contract, call by call. Assumes nothing.
use mathlib.Core.Path.{refl}
use Prim.Native.Nat.{min}
use Rattle.tables.specs.Tables.{row_room}
use Rattle.before.specs.Before.{row_steps_in}
use Rattle.before.specs.steps.Linked.{inits_in}
use Rattle.before.proofs.LinkedLaws.{linking_more}
use Rattle.before.proofs.add_seen.Goals as goal

pub add_rows-requires : goal.add_rows-requires
add_rows-requires g c = (c.requires.0, c.add_inits.ensures.size, c.add_inits.ensures.width)

pub returns : goal.returns
returns g c =
    let t = g.A.Accesses.table c.args.of.now in
    linking_more (inits_in t c.args.n c.args.n) (row_steps_in t c.args.q.now (min c.args.rows row_room)) _ (λ l. refl) c.add_inits.ensures c.add_rows.ensures
