-- `compose::put_entries` meets its contract. The invariant is the contract at the place reached: the first i entries are put. Assumes nothing.
use mathlib.Core.Path.{refl}
use mathlib.Core.List.{List}
use Prim.Native.Nat.{ℕ, ◌*◌}
use native.Mathlib.Omega.{arith}
use lib.ListN.{length}
use Rattle.encode.specs.Lent.{part}
use Rattle.compose.proofs.ComposeLaws.{puts_entry, puts_part, gap_room, puts_run_none, puts_run_all}
use Rattle.compose.proofs.put_entries.Goals as goal

pub loop-i-init : goal.loop-i-init
loop-i-init c = let a = c.args in puts_run_none a.tag (λ (v : List ℕ). v) (part a.gap a.list.now) a.at a.out.now

pub overflow_mul-k : goal.overflow_mul-k
overflow_mul-k c = let a = c.args in let r = gap_room (c.loop-i.i * a.gap) c.loop-i.i a.n a.gap (length a.list.now) refl c.loop-i-test.true c.requires in omega arith

pub overflow_add-k : goal.overflow_add-k
overflow_add-k c = let a = c.args in let r = gap_room (c.loop-i.i * a.gap) c.loop-i.i a.n a.gap (length a.list.now) refl c.loop-i-test.true c.requires in omega arith

pub slice_bounds-put_field-end : goal.slice_bounds-put_field-end
slice_bounds-put_field-end c = let a = c.args in let r = gap_room (c.loop-i.i * a.gap) c.loop-i.i a.n a.gap (length a.list.now) refl c.loop-i-test.true c.requires in omega arith

pub loop-i-preserved : goal.loop-i-preserved
loop-i-preserved c = let a = c.args in let l = c.loop-i in puts_entry a.tag (λ (v : List ℕ). v) (part a.gap a.list.now) l.i l.invariant (puts_part a.tag a.gap a.list.now (l.i * a.gap) l.i refl c.put_field-next.ensures)

pub returns : goal.returns
returns c = let a = c.args in let l = c.loop-i in puts_run_all a.tag (λ (v : List ℕ). v) (part a.gap a.list.now) l.i a.n (omega arith) l.invariant
