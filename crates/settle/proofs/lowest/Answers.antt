-- `settle::lowest` meets its contract: no event before e has a partner, and `behind` has the events from e on. Assumes nothing.
use Rattle.std.proofs.Common.{◌≡◌, ℕ, ◌+◌, ◌<◌, min, false, sym, ap, ◌∙◌, subst, mod-eq_of_lt, arith, below_more}
use Rattle.sets.specs.Mask.{slots, full, Rest}
use Rattle.answer.specs.declared.Settled.TheVariants.{Unsettled}
use Rattle.settle.specs.Settle.{loose_in}
use Rattle.settle.proofs.SettleLaws.{partner_is, partner_no, settled_found, settled_none}
use Rattle.settle.proofs.BehindLaws.{behind_all, behind_next}
use Rattle.settle.proofs.lowest.Goals as goal

pub loop-e-init : goal.loop-e-init
loop-e-init g c =
    let m : ℕ = c.args.n in
    let few : min m slots ≡ m = omega (arith, c.requires) in
    (λ x h. absurd (omega (arith, c.requires)), subst (Rest 0 0 m) (sym (c.full-behind.ensures ∙ ap full few)) (behind_all m))

pub partner-requires : goal.partner-requires
partner-requires g c =
    let l = c.loop-e in
    let m : ℕ = c.args.n in
    let low : l.e < slots = omega (arith, c.requires) in
    (c.requires, subst (λ (x : ℕ). Rest 0 (x + 1) m c.without-behind.result) (sym (mod-eq_of_lt low)) (behind_next low l.invariant.1 c.without-behind.ensures))

pub overflow_cast-result-in-Some : goal.overflow_cast-result-in-Some
overflow_cast-result-in-Some g c =
    let k = (partner_is (g.A.Accesses.table c.args.of.now) c.args.succ.now c.args.n c.loop-e.e (omega (arith, c.requires)) c.partner.result c.partner.ensures c.in-Some.d c.in-Some.is).1 in
    omega (arith, c.requires)

pub returns-in-Some : goal.returns-in-Some
returns-in-Some g c =
    let l = c.loop-e in
    let t = g.A.Accesses.table c.args.of.now in
    let s = c.args.succ.now in
    let m : ℕ = c.args.n in
    let k = partner_is t s m l.e (omega (arith, c.requires)) c.partner.result c.partner.ensures c.in-Some.d c.in-Some.is in
    let q = k.0 in
    let r = k.1 in
    ap (Unsettled l.e) q ∙ settled_found t s m l.e l.invariant.0 (omega (arith, c.requires)) (omega (arith, c.requires))

pub loop-e-preserved : goal.loop-e-preserved
loop-e-preserved g c =
    let l = c.loop-e in
    let t = g.A.Accesses.table c.args.of.now in
    let s = c.args.succ.now in
    let m : ℕ = c.args.n in
    (below_more (λ (x : ℕ). loose_in t s m x ≡ false) l.e l.invariant.0 (partner_no t s m l.e (omega (arith, c.requires)) c.partner.result c.partner.ensures c.in_default.is), behind_next (omega (arith, c.requires)) l.invariant.1 c.without-behind.ensures)

pub returns : goal.returns
returns g c =
    let l = c.loop-e in
    settled_none (g.A.Accesses.table c.args.of.now) c.args.succ.now c.args.n l.e l.invariant.0 (omega (arith, c.requires))
