-- `torn::join` meets its contract: the shifted bit is the event's, or none. Assumes nothing.
use Rattle.std.proofs.Common.{ℕ, ◌*◌, ◌%◌, ◌^◌, ap, ◌∙◌, arith}
use lib.Bits.{bit_or}
use Rattle.sets.specs.Mask.{slots}
use Rattle.torn.proofs.TornLaws.{bit_joined}
use Rattle.torn.proofs.join.Goals as goal

pub returns : goal.returns
returns c = ap (λ (x : ℕ). bit_or c.args.m ((x * 2 ^ (c.args.e % slots)) % 2 ^ slots)) c.one.ensures ∙ bit_joined c.args.m (c.args.e % slots) (omega arith) c.args.test
