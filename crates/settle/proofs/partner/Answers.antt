-- `settle::partner` meets its contract: of those to try, nothing is known yet of what is left. Assumes nothing.
use Rattle.std.proofs.Common.{◌≡◌, ℕ, ◌%◌, get_or, sym, ap, ◌∙◌, subst, mod-eq_of_lt}
use Rattle.sets.specs.Mask.{slots}
use Rattle.cells.specs.Walk.{picked}
use Rattle.cells.proofs.FirstLaws.{Left, left_next}
use Rattle.settle.specs.steps.Ahead.{ahead_in, free_in}
use Rattle.settle.proofs.SettleLaws.{ahead_is, partner_start, partner_hit, partner_end}
use Rattle.settle.proofs.BehindLaws.{behind_cut}
use Rattle.settle.proofs.partner.Goals as goal

pub loop-d-init : goal.loop-d-init
loop-d-init g c =
    let t = g.A.Accesses.table c.args.of.now in
    let s = c.args.succ.now in
    let n : ℕ = c.args.n in
    let e : ℕ = c.args.e % slots in
    let row : ℕ = get_or s e 0 in
    rw (c.into_iter-d-iterator.ensures.into_iter_gives, c.members-d-items.ensures)
    (subst (Left (free_in t s e) (picked n (ahead_in row e))) (sym (ahead_is row n e c.except.result (behind_cut c.requires.1 c.except.ensures))) (partner_start t s n e c.requires.0))

pub returns-then-loose : goal.returns-then-loose
returns-then-loose g c =
    let t = g.A.Accesses.table c.args.of.now in
    let s = c.args.succ.now in
    let e : ℕ = c.args.e % slots in
    let k = c.in-Some.ensures.steps in
    let f : c.loose.result ≡ free_in t s e c.in-Some.d = c.loose.ensures ∙ ap (free_in t s e) (mod-eq_of_lt k.slot) in
    partner_hit t s c.args.n e c.requires.0 c.loop-d.invariant c.in-Some.d c.next.new.self.left k (sym f ∙ c.if-loose.true)

pub loop-d-preserved : goal.loop-d-preserved
loop-d-preserved g c =
    let t = g.A.Accesses.table c.args.of.now in
    let s = c.args.succ.now in
    let e : ℕ = c.args.e % slots in
    let k = c.in-Some.ensures.steps in
    let f : c.loose.result ≡ free_in t s e c.in-Some.d = c.loose.ensures ∙ ap (free_in t s e) (mod-eq_of_lt k.slot) in
    left_next c.loop-d.invariant c.in-Some.d c.next.new.self.left k (sym f ∙ c.if-loose.false)

pub returns : goal.returns
returns g c = partner_end (g.A.Accesses.table c.args.of.now) c.args.succ.now c.args.n (c.args.e % slots) c.requires.0 c.loop-d.invariant c.in-None.ensures.steps.0
