-- `plain::begin` meets its contract: at the start, or behind a head. Assumes nothing.
use mathlib.Core.Path.{refl, sym, ◌∙◌}
use native.Mathlib.Omega.{arith}
use Rattle.spot.proofs.BetweenLaws.{turn_start}
use Rattle.spot.specs.Between.{blank_places}
use Rattle.spot.proofs.TallyLaws.{tallied_start}
use Rattle.plain.proofs.PlainLaws.{head_reach, head_next}
use Rattle.spot.proofs.TabledLaws.{tabled_none}
use Rattle.plain.proofs.begin.Goals as goal

pub returns-then-not-plain : goal.returns-then-not-plain
returns-then-not-plain c = rw c.start.ensures (record { turn = turn_start c.args.s.now c.requires; tallied = tallied_start c.args.s.now 0 blank_places }, λ t q. tabled_none c.args.s.now _ blank_places t q refl refl, record { low = omega arith; no_head_lem = λ e. sym c.plain_head-plain.ensures.is ∙ c.if-not-plain.true })

pub overflow_cast-next : goal.overflow_cast-next
overflow_cast-next c = let r = head_reach c.args.s.now c.requires (c.plain_head-plain.ensures.clean c.if-not-plain.false) in let e = c.next_at-next.ensures in omega arith

pub returns : goal.returns
returns c =
    simp (c.start-2.ensures, c.behind.ensures, c.head_of.ensures, c.byte.ensures, c.value_at-v.ensures, c.next_at-next.ensures)
    (record { turn = head_next c.args.s.now c.requires (c.plain_head-plain.ensures.clean c.if-not-plain.false); tallied = tallied_start c.args.s.now _ blank_places }, λ t q. tabled_none c.args.s.now _ blank_places t q refl refl, record { low = omega arith; no_head_lem = λ e. absurd (omega arith) })
