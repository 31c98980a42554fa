-- `lay::pair` meets its contract. Assumes nothing.
use mathlib.Core.Path.{ap, ◌∙◌}
use Prim.Native.Nat.{◌%◌}
use Rattle.format.specs.declared.Pair.{Pair}
use Rattle.tables.specs.Tables.{pair_room, putting_pair}
use Rattle.lay.specs.Lay.{pair_put}
use Rattle.lay.proofs.pair.Goals as goal

pub returns : goal.returns
unfolding pair_put
returns c = c.put_pair.ensures ∙ ap (λ (r : Pair). putting_pair c.args.p.now (c.args.j % pair_room) r) c.pair_no.ensures
