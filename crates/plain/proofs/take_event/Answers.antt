-- `plain::take_event` meets its contract: the place, the access, the bytes and the agent. Assumes nothing.
use mathlib.Core.Path.{◌≡◌, sym, ap, ◌∙◌}
use Prim.Native.Nat.{ℕ, ◌+◌, ◌%◌}
use native.Mathlib.Nat.{mod-eq_of_lt}
use native.Mathlib.Omega.{arith}
use lib.ListN.{get_or}
use lib.Seq.{get_or-drop}
use Rattle.sets.specs.Mask.{slots}
use Rattle.format.specs.Field.{field_bytes, rest_at}
use Rattle.format.specs.Layout.{agent_of}
use Rattle.spot.proofs.TallyLaws.{tally_any}
use Rattle.spot.proofs.TabledLaws.{event_laid}
use Rattle.plain.proofs.take_event.Goals as goal

pub returns : goal.returns
returns c =
    let a = c.args in
    let s = a.s.now in
    let i : a.p + field_bytes + 0 ≡ a.p + field_bytes = omega arith in
    let agent = get_or s (a.p + field_bytes) 0 in
    let is : agent ≡ agent_of (rest_at s a.p) = ap (λ (j : ℕ). get_or s j 0) (sym i) ∙ sym (get_or-drop (a.p + field_bytes) s 0 0) in
    let n : a.n % slots ≡ a.n = mod-eq_of_lt c.requires.1 in
    record {
      place = rw n at c.lay_event.ensures.0;
      table = event_laid s a.edition a.p a.n a.t.now _ agent a.a (rw n at c.lay_event.ensures.1) is c.requires.4;
      tally = tally_any s a.edition a.p a.k c.read_width.result c.noted.result (rw c.requires.4 at c.read_width.ensures.0) (rw is at c.noted.ensures);
      small = let w = c.read_width.ensures.1 in omega arith;
    }
