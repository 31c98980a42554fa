-- `prepare::ready` meets its contract: 21 by itself, then by happens-before one pass that mostly finds nothing, or the rules one after another.
-- Assumes nothing.
use mathlib.Core.Path.{◌≡◌, refl, sym, subst}
use Rattle.std.proofs.Common.{rules, Err}
use Rattle.prepare.proofs.PreparedLaws.{readied_bytes, readied_clean, readied_rest, readied_broken}
use Rattle.prepare.proofs.ready.Goals as goal

pub returns-in_err-bytes : goal.returns-in_err-bytes
returns-in_err-bytes c = let a = c.args in let k : c.from_residual.result ≡ Err c.in_err-bytes.field-0.0 = search rules in rw k (readied_bytes a.s.now a.x a.t.now a.q.now a.succ.now a.pred.now c.bytes.ensures c.in_err-bytes.was)

pub returns-in-Some : goal.returns-in-Some
returns-in-Some c = let a = c.args in readied_clean a.s.now a.x a.t.now a.q.now a.succ.now a.pred.now refl c.order.ensures c.bytes.ensures c.in_ok-bytes.was c.sift-listed.ensures c.in-Some.count c.in-Some.is

pub returns-in_err-rest : goal.returns-in_err-rest
returns-in_err-rest c = let a = c.args in let k : c.from_residual-in_err-rest.result ≡ Err c.in_err-rest.field-0.0 = search rules in rw k (readied_broken a.s.now a.x a.t.now a.q.now a.succ.now a.pred.now refl c.order.ensures c.bytes.ensures c.in_ok-bytes.was c.rest.ensures c.in_err-rest.was)

pub returns : goal.returns
returns c = let a = c.args in readied_rest a.s.now a.x a.t.now a.q.now a.succ.now a.pred.now refl c.order.ensures c.bytes.ensures c.in_ok-bytes.was c.sift-listed.ensures c.in_default.is c.rest.ensures c.in_ok-rest.was
