-- `before::beyond` meets its contract: the first events have been looked at. The measure is what is left. Assumes nothing.
use mathlib.Core.Path.{◌≡◌, sym, ap, ◌∙◌, subst}
use mathlib.Core.Bool.{Bool, cond}
use Prim.Native.Nat.{ℕ, ◌%◌}
use native.Mathlib.Nat.{mod-eq_of_lt}
use native.Mathlib.Omega.{arith}
use lib.Bits.{bit_or}
use lib.ListN.{get_or}
use Rattle.sets.specs.Mask.{slots, mem}
use Rattle.before.specs.steps.Linked.{Beyond}
use Rattle.before.proofs.LinkedLaws.{beyond_none, beyond_more, beyond_all}
use Rattle.before.proofs.beyond.Goals as goal

pub loop-k-init : goal.loop-k-init
loop-k-init c = (omega arith, beyond_none c.args.succ.now c.args.x)

pub bounds-succ-k : goal.bounds-succ-k
bounds-succ-k c = omega (arith, c.requires, c.loop-k-test.true)

pub loop-k-preserved : goal.loop-k-preserved
loop-k-preserved c =
    let a = c.args in
    let l = c.loop-k in
    let slot : l.k % slots ≡ l.k = mod-eq_of_lt (omega (arith, c.loop-k-test.true)) in
    let is = c.gained-d.ensures ∙ ap (λ (b : Bool). cond b (bit_or l.d (get_or a.succ.now l.k 0)) l.d) (c.has.ensures ∙ ap (mem a.x) slot) in
    (omega arith, subst (Beyond _ a.succ.now a.x) (sym is) (beyond_more l.k a.succ.now a.x l.d l.invariant.1))

pub returns-then-x-lt4096 : goal.returns-then-x-lt4096
returns-then-x-lt4096 c =
    let a = c.args in
    let l = c.loop-k in
    let k : l.k ≡ 12 = omega arith in
    beyond_all 12 a.succ.now a.x l.d (omega arith) c.if-x-lt4096.true (subst (λ (i : ℕ). Beyond i a.succ.now a.x l.d) k l.invariant.1)

pub loop-k-2-init : goal.loop-k-2-init
loop-k-2-init c =
    let a = c.args in
    let l = c.loop-k in
    let k : l.k ≡ 12 = omega arith in
    (omega arith, subst (λ (i : ℕ). Beyond i a.succ.now a.x l.d) k l.invariant.1)

pub bounds-succ-k-in-loop-k-2 : goal.bounds-succ-k-in-loop-k-2
bounds-succ-k-in-loop-k-2 c = omega (arith, c.requires, c.loop-k-2-test.true)

pub loop-k-2-preserved : goal.loop-k-2-preserved
loop-k-2-preserved c =
    let a = c.args in
    let l = c.loop-k-2 in
    let slot : l.k % slots ≡ l.k = mod-eq_of_lt (omega (arith, c.loop-k-2-test.true)) in
    let is = c.gained-d-in-loop-k-2.ensures ∙ ap (λ (b : Bool). cond b (bit_or l.d (get_or a.succ.now l.k 0)) l.d) (c.has-in-loop-k-2.ensures ∙ ap (mem a.x) slot) in
    (omega arith, subst (Beyond _ a.succ.now a.x) (sym is) (beyond_more l.k a.succ.now a.x l.d l.invariant.1))

pub returns-then-x-lt16777216 : goal.returns-then-x-lt16777216
returns-then-x-lt16777216 c =
    let a = c.args in
    let l = c.loop-k-2 in
    let k : l.k ≡ 24 = omega arith in
    beyond_all 24 a.succ.now a.x l.d (omega arith) c.if-x-lt16777216.true (subst (λ (i : ℕ). Beyond i a.succ.now a.x l.d) k l.invariant.1)

pub loop-e-init : goal.loop-e-init
loop-e-init c =
    let a = c.args in
    let l = c.loop-k-2 in
    let k : l.k ≡ 24 = omega arith in
    (omega arith, subst (λ (i : ℕ). Beyond i a.succ.now a.x l.d) k l.invariant.1)

pub bounds-succ-e : goal.bounds-succ-e
bounds-succ-e c = omega (arith, c.requires, c.loop-e-test.true)

pub loop-e-preserved : goal.loop-e-preserved
loop-e-preserved c =
    let a = c.args in
    let l = c.loop-e in
    let slot : l.e % slots ≡ l.e = mod-eq_of_lt (omega (arith, c.loop-e-test.true)) in
    let is = c.gained-d-in-loop-e.ensures ∙ ap (λ (b : Bool). cond b (bit_or l.d (get_or a.succ.now l.e 0)) l.d) (c.has-in-loop-e.ensures ∙ ap (mem a.x) slot) in
    (omega arith, subst (Beyond _ a.succ.now a.x) (sym is) (beyond_more l.e a.succ.now a.x l.d l.invariant.1))

pub returns : goal.returns
returns c =
    let a = c.args in
    let l = c.loop-e in
    let k : l.e ≡ slots = omega arith in
    subst (λ (i : ℕ). Beyond i a.succ.now a.x l.d) k l.invariant.1
