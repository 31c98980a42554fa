-- `sheet::reader::after` meets its contract: a field taken, by its tag; the tests of the field leave no other. Assumes nothing.
use mathlib.Core.Path.{◌≡◌, sym, ◌∙◌}
use Prim.Native.Nat.{◌%◌}
use native.Mathlib.Nat.{mod-eq_of_lt}
use native.Mathlib.Omega.{arith}
use Rattle.sets.specs.Mask.{slots}
use Rattle.parse.proofs.ParseLaws.{known}
use Rattle.faults.specs.Faults.{view}
use Rattle.spot.proofs.BetweenLaws.{ready_next, event_few, row_few, pair_few, head_taken, event_taken, row_taken_lem, pair_taken}
use Rattle.spot.proofs.TabledLaws.{event_laid, after_head, after_event, tabled_row, tabled_pair}
use Rattle.sheet.proofs.reader.after.Goals as goal

pub overflow_cast-next : goal.overflow_cast-next
overflow_cast-next c = let r = ready_next c.args.s.now c.args.p c.args.last c.args.x c.args.at.now c.requires in let e = c.next_at-next.ensures in omega arith

pub with_event-requires : goal.with_event-requires
with_event-requires c = event_few c.args.s.now c.args.p c.args.last c.args.x c.args.at.now c.requires (sym c.byte-tag.ensures ∙ c.in-2.is)

pub with_row-requires : goal.with_row-requires
with_row-requires c = row_few c.args.s.now c.args.p c.args.last c.args.x c.args.at.now c.requires (sym c.byte-tag.ensures ∙ c.in-3.is)

pub with_pair-requires : goal.with_pair-requires
with_pair-requires c = pair_few c.args.s.now c.args.p c.args.last c.args.x c.args.at.now c.requires

pub returns-in-1 : goal.returns-in-1
returns-in-1 c = (simp (c.behind.ensures, c.head_of.ensures, c.byte.ensures, c.value_at-v.ensures, c.next_at-next.ensures) (head_taken c.args.s.now c.args.p c.args.last c.args.x c.args.at.now c.requires (sym c.byte-tag.ensures ∙ c.in-1.is)), rw c.behind.ensures (after_head c.args.s.now c.args.p c.args.last c.args.x c.args.at.now c.requires (sym c.byte-tag.ensures ∙ c.in-1.is) c.head_of.result c.next_at-next.result c.args.t.now c.args.q.now))

pub returns-in-2 : goal.returns-in-2
returns-in-2 c =
    let n : c.args.x.events % slots ≡ c.args.x.events = mod-eq_of_lt (event_few c.args.s.now c.args.p c.args.last c.args.x c.args.at.now c.requires (sym c.byte-tag.ensures ∙ c.in-2.is)).0 in
    let l = rw n at c.lay_event.ensures in
    (simp (l.0, c.with_event.ensures, c.byte-in-2.ensures, c.value_at-v.ensures, c.next_at-next.ensures) (event_taken c.args.s.now c.args.p c.args.last c.args.x c.args.at.now c.requires (sym c.byte-tag.ensures ∙ c.in-2.is)), rw (l.0, c.with_event.ensures) (after_event c.args.s.now c.args.p c.args.last c.args.x c.args.at.now c.requires (sym c.byte-tag.ensures ∙ c.in-2.is) c.byte-in-2.result c.next_at-next.result c.args.t.now _ c.args.q.now (event_laid c.args.s.now c.args.x.head.edition c.args.p c.args.x.events c.args.t.now _ c.agent_at-agent.result c.shape_at-a.result l.1 c.agent_at-agent.ensures c.shape_at-a.ensures)))

pub returns-in-3 : goal.returns-in-3
returns-in-3 c = (simp (c.with_row.ensures, c.next_at-next.ensures) (row_taken_lem c.args.s.now c.args.p c.args.last c.args.x c.args.at.now c.requires (sym c.byte-tag.ensures ∙ c.in-3.is)), λ t₀ q₀ h. rw (c.with_row.ensures, c.row.ensures) (tabled_row c.args.s.now c.args.x c.args.at.now t₀ c.args.t.now q₀ c.args.q.now h c.next_at-next.result))

pub returns-in-4 : goal.returns-in-4
returns-in-4 c = (simp c.with_pair.ensures (pair_taken c.args.s.now c.args.p c.args.last c.args.x c.args.at.now c.requires (sym c.byte-tag.ensures ∙ c.in-4.is)), λ t₀ q₀ h. rw c.with_pair.ensures (tabled_pair c.args.s.now c.args.x c.args.at.now t₀ c.args.t.now q₀ c.args.q.now h))

pub returns-in_default : goal.returns-in_default
returns-in_default c = absurd (known c.args.s.now c.args.p (view c.args.s.now c.args.last c.args.x c.args.at.now) c.requires.clean (λ e. c.in_default.in_default-own.rest.0.0.0.1 (c.byte-tag.ensures ∙ e)) (λ e. c.in_default.in_default-own.rest.0.0.1 (c.byte-tag.ensures ∙ e)) (λ e. c.in_default.in_default-own.rest.0.1 (c.byte-tag.ensures ∙ e)) (λ e. c.in_default.in_default-own.rest.1 (c.byte-tag.ensures ∙ e)))
