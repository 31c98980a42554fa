-- `alike::key` meets its contract, by the mode. Assumes nothing.
use mathlib.Core.Path.{sym, ◌∙◌}
use native.Mathlib.Omega.{arith}
use Rattle.alike.proofs.KeysLaws.{key_sc, key_not}
use Rattle.alike.proofs.key.Goals as goal

pub returns-then-sc : goal.returns-then-sc
returns-then-sc c = record { is = key_sc c.args.a (sym c.sc.ensures ∙ c.if-sc.true); byte = omega arith }

pub returns-else-sc : goal.returns-else-sc
returns-else-sc c = record { is = key_not c.args.a (sym c.sc.ensures ∙ c.if-sc.false); byte = omega arith }
