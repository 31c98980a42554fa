-- `puts::fits` meets its contract. Where the next event would pass the limit, all of them do. Assumes nothing.
use Rattle.std.proofs.Common.{◌+◌, ◌<◌, ◌≤◌, length, get_or, arith, sym, ap}
use borrow.Author.Tests.{lt-leb, le-leb}
use Rattle.puts.specs.Numbers.{events_text}
use Rattle.puts.proofs.NumbersLaws.{byte_length, events_all, events_sum, events_length}
use Rattle.puts.proofs.fits.Goals as goal

pub overflow_add-w : goal.overflow_add-w
overflow_add-w c = omega (arith, c.width-w.ensures, byte_length (get_or c.args.events.now c.loop-e.e-index 0) (omega (arith, c.type_inv.events c.loop-e.e-index)))

pub returns-then-limit-end : goal.returns-then-limit-end
returns-then-limit-end c =
    let h : c.args.limit < c.args.at + length (events_text c.args.events.now) = omega (arith, c.width-w.ensures, events_length c.args.events.now c.loop-e.e-index c.loop-e-test.true) in sym (lt-leb _ _ h)

pub loop-e-preserved : goal.loop-e-preserved
loop-e-preserved c = omega (arith, c.width-w.ensures, events_sum c.args.events.now c.loop-e.e-index c.loop-e-test.true)

pub returns : goal.returns
returns c =
    let h : c.args.at + length (events_text c.args.events.now) ≤ c.args.limit = omega (arith, ap length (events_all c.args.events.now c.loop-e.e-index c.loop-e-test.false)) in sym (le-leb _ _ h)
