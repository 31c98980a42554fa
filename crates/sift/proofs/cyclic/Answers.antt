-- `sift::cyclic` meets its contract: of the first e events it is known. The measure is what is left. Assumes nothing.
use mathlib.Core.Path.{◌≡◌, refl, ap, ◌∙◌, subst}
use mathlib.Core.Bool.{true}
use Prim.Native.Nat.{ℕ}
use native.Mathlib.Nat.{mod-eq_of_lt}
use native.Mathlib.Omega.{arith}
use Rattle.sets.specs.Mask.{slots, insert}
use Rattle.torn.specs.steps.Noticed.{Marks, Among}
use Rattle.torn.proofs.NoticedLaws.{marked_none, marked_more}
use Rattle.rules.specs.Rules.{cyclic_in}
use Rattle.sift.proofs.CleanLaws.{marks_cyclic}
use Rattle.sift.proofs.cyclic.Goals as goal

pub loop-e-init : goal.loop-e-init
loop-e-init c = (omega arith, marked_none _)

pub loop-e-preserved : goal.loop-e-preserved
loop-e-preserved c =
    let l = c.loop-e in
    let succ = c.args.succ.now in
    (omega arith, marked_more (λ (d : ℕ). cyclic_in succ d ≡ true) l.e l.c _ l.invariant.1 (marks_cyclic succ l.e _ c.with.result refl (c.with.ensures ∙ ap (insert 0) (mod-eq_of_lt (omega arith)))))

pub returns : goal.returns
returns c =
    let l = c.loop-e in
    let e : l.e ≡ slots = omega arith in
    subst (λ (i : ℕ). Marks l.c (Among i (λ (d : ℕ). cyclic_in c.args.succ.now d ≡ true))) e l.invariant.1
