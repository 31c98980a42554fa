-- `prepare::rule` meets its contract: 21 by itself, then the other rules by happens-before. Assumes nothing.
use mathlib.Core.Path.{◌≡◌, refl}
use Rattle.std.proofs.Common.{rules, Err}
use Rattle.prepare.proofs.PreparedLaws.{ruled_bytes, ruled_rest}
use Rattle.prepare.proofs.rule.Goals as goal

pub returns-in_err-bytes : goal.returns-in_err-bytes
returns-in_err-bytes c = let a = c.args in let k : c.from_residual.result ≡ Err c.in_err-bytes.field-0.0 = search rules in rw k (ruled_bytes a.s.now a.x a.t.now a.q.now a.succ.now a.pred.now c.bytes.ensures c.in_err-bytes.was)

pub returns : goal.returns
returns c = let a = c.args in ruled_rest a.s.now a.x a.t.now a.q.now a.succ.now a.pred.now refl c.order.ensures c.bytes.ensures c.in_ok-bytes.was c.rest.ensures
