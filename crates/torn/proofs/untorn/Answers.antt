-- `torn::untorn` meets its contract, test by test. Assumes nothing.
use Rattle.std.proofs.Common.{◌≡◌, ◌%◌, mod-eq_of_lt, arith}
use Rattle.sets.specs.Mask.{slots}
use Rattle.tables.specs.Tables.{accesses}
use Rattle.basis.specs.Test.{◌and◌}
use Rattle.tables.specs.Tables.{slot_in}
use Rattle.tables.proofs.TablesLaws.{slot_lt}
use Rattle.torn.specs.Torn.{untorn_in}
use Rattle.torn.proofs.untorn.Goals as goal

pub returns : goal.returns
unfolding untorn_in ◌and◌
returns c =
    let t = c.args.t.now in
    let r = c.args.r in
    let i : slot_in t (r.reader % slots) r.address % accesses ≡ slot_in t (r.reader % slots) r.address = mod-eq_of_lt (slot_lt t (r.reader % slots) r.address (omega arith)) in
    let j : slot_in t (r.writer % slots) r.address % accesses ≡ slot_in t (r.writer % slots) r.address = mod-eq_of_lt (slot_lt t (r.writer % slots) r.address (omega arith)) in
    simp (c.equal.ensures, c.tear_free.ensures, c.tear_free-2.ensures, c.shape-a.ensures, c.shape-b.ensures, c.requires, c.slot_at.ensures, i, j)
