-- `entries::agent_at` meets its contract: the first byte behind the field's length. Assumes nothing.
use mathlib.Core.Path.{sym, ap, ◌∙◌}
use Prim.Native.Nat.{ℕ, ◌+◌}
use native.Mathlib.Omega.{arith}
use lib.ListN.{get_or}
use lib.Seq.{get_or-drop}
use Rattle.format.specs.Field.{field_bytes}
use Rattle.entries.proofs.agent_at.Goals as goal

pub returns : goal.returns
returns c = c.byte.ensures ∙ ap (λ (i : ℕ). get_or c.args.s.now i 0) (omega arith) ∙ sym (get_or-drop (c.args.at + field_bytes) c.args.s.now 0 0)
