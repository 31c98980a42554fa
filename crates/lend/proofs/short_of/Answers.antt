-- `lend::short_of` meets its contract: the first test that holds names the buffer. Assumes nothing.
use native.Mathlib.Omega.{arith}
use borrow.Author.Tests.{lt-ltb, le-ltb}
use Rattle.format.specs.Layout.{row_bytes}
use Rattle.lend.specs.Lending.{short_by}
use Rattle.lend.proofs.short_of.Goals as goal

pub returns-then-head-head_bytes : goal.returns-then-head-head_bytes
unfolding short_by
returns-then-head-head_bytes c = simp (lt-ltb _ _ (rw c.head_bytes.ensures at c.if-head-head_bytes.true))

pub returns-then-events-x : goal.returns-then-events-x
unfolding short_by
returns-then-events-x c = simp (le-ltb _ _ (rw c.head_bytes.ensures at c.if-head-head_bytes.false), lt-ltb _ _ c.if-events-x.true)

pub returns-then-bytes-sum : goal.returns-then-bytes-sum
unfolding short_by
returns-then-bytes-sum c = simp (le-ltb _ _ (rw c.head_bytes.ensures at c.if-head-head_bytes.false), le-ltb _ _ c.if-events-x.false, lt-ltb _ _ c.if-bytes-sum.true)

pub overflow_mul-x-2 : goal.overflow_mul-x-2
unfolding row_bytes
overflow_mul-x-2 c = rw c.row_bytes.ensures (omega arith)

pub returns-then-rows-x : goal.returns-then-rows-x
unfolding short_by
returns-then-rows-x c = simp (le-ltb _ _ (rw c.head_bytes.ensures at c.if-head-head_bytes.false), le-ltb _ _ c.if-events-x.false, le-ltb _ _ c.if-bytes-sum.false, lt-ltb _ _ (rw c.row_bytes.ensures at c.if-rows-x.true))

pub returns-then-pairs-x : goal.returns-then-pairs-x
unfolding short_by
returns-then-pairs-x c = simp (le-ltb _ _ (rw c.head_bytes.ensures at c.if-head-head_bytes.false), le-ltb _ _ c.if-events-x.false, le-ltb _ _ c.if-bytes-sum.false, le-ltb _ _ (rw c.row_bytes.ensures at c.if-rows-x.false), lt-ltb _ _ c.if-pairs-x.true)

pub returns : goal.returns
unfolding short_by
returns c = simp (le-ltb _ _ (rw c.head_bytes.ensures at c.if-head-head_bytes.false), le-ltb _ _ c.if-events-x.false, le-ltb _ _ c.if-bytes-sum.false, le-ltb _ _ (rw c.row_bytes.ensures at c.if-rows-x.false), le-ltb _ _ c.if-pairs-x.false)
