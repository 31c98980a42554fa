-- `lend::lend_whole` meets its contract: a buffer is too short, or each slice is put where there is room. Assumes nothing.
use native.Mathlib.Omega.{arith}
use Rattle.encode.specs.Lend.{five}
use Rattle.lend.proofs.LendingLaws.{lending_short, lending_filled}
use Rattle.lend.proofs.lend_whole.Goals as goal

pub returns-then-k-lt-NO_BUFFER : goal.returns-then-k-lt-NO_BUFFER
returns-then-k-lt-NO_BUFFER c =
    let a = c.args in
    let entry = five a.head.now a.events.now a.bytes.now a.rows.now a.pairs.now in
    let sum = c.data_count-sum.ensures.is in
    lending_short a.s.now a.x a.at.now c.requires entry (rw sum at c.short_of-k.ensures) (omega arith)

pub returns : goal.returns
returns c =
    let a = c.args in
    let entry = five a.head.now a.events.now a.bytes.now a.rows.now a.pairs.now in
    let sum = c.data_count-sum.ensures.is in
    lending_filled a.s.now a.x a.at.now c.requires entry sum (rw sum at c.short_of-k.ensures) c.if-k-lt-NO_BUFFER.false c.put_head.ensures c.put_events.ensures
    c.put_data.ensures
    c.put_rows.ensures
    c.put_pairs.ensures
