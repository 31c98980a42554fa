-- The litmus tables (specs/Litmus.antt, specs/Further.antt), each tested against the definitions by one computed statement. That what computes is
-- what is Judged: proofs/OutcomeLaws.antt; the law that makes each entry a `Judged`: proofs/Litmus.antt. Assumes nothing.
--     told                    the answer and the order, computed             example_fields     01's example, field by field
--     litmus, litmus_more     the two statements
use mathlib.Core.Path.{◌≡◌, refl}
use mathlib.Core.List.{List, [], ◌∷◌}
use Prim.Native.Nat.{ℕ}
use Rattle.answer.specs.declared.Answer.{Answer}
use Rattle.basis.specs.Test.{◌and◌, ◌or◌, non, any, all, number, keep, find, ◌else◌, mapped, each, across, from}
use Rattle.format.specs.Shape.{reads, writes, marks, initial, unordered, sc, tear_free, covers, overlap, equal, both_sc, divides, unbroken, tear_of}
use Rattle.format.specs.Event.{lookup, access_at, shape_at, reads_at, writes_at, saw, wrote, is_init, reads_some, is_marker, meets}
use Rattle.format.specs.Execution.{event_no, event, inits, others, row_below, pair_below}
use Rattle.format.specs.Field.{value_at}
use Rattle.format.specs.Layout.{head_bytes, event_bytes, tear_by, data_bytes, seen_of, written_of, row_bytes}
use Rattle.content.specs.Content.{within, head_fits, inside, init_formed, sized, kind_fits, other_formed, formed, tear_fits, alone, stands_first, event_fits, room_in, joins, row_rises, row_fits, parts, pair_rises, pair_fits}
use Rattle.parse.specs.Parse.{place_of, allowed, head_fault, event_fault_by, row_fault, pair_fault, value_fault_by, fault_by, taken, after, is_row, lacks, lowest_lacking, appears, missing, completed, finish, fields_from, parse}
use Rattle.model.specs.Events.{numbers, at_row, any_two}
use Rattle.model.specs.Happens.{agent_order, row_syncs, synchronises, init_first, step}
use Rattle.model.specs.Rules.{breaks21, breaks22, breaks23, breaks24, untorn, untorn_from, breaks25, fault21, fault22, fault23, fault24, fault25, fault}
use Rattle.model.specs.Bar.{bar_a, bar_b, bar_c, row_bars}
use Rattle.model.specs.Unsettled.{clash, unsettled, unsettled_pair}
use Rattle.model.specs.Judged.{lent, admitted, settled_of}
use Rattle.model.proofs.Outcome.{table, look, through, warshall, hb_table, member, put, kept, without, bar_list, first_of, gated, unless_done, free, search, first_order, verdict, outcome_of, outcome}
use Rattle.model.specs.Litmus.{Entry, example, proved, sheet, head, init, read, row}
use Rattle.model.specs.Further.{further}

-- the answer and the order, with all that they compute with open
-- A new definition that they compute with must join the list behind `unfolding`, or `refl` fails in `litmus` and `litmus_more` below.
unfoldable pub told : List ℕ → ℕ → ℕ → Answer × List ℕ
unfolding ◌and◌ ◌or◌ non any all number keep find ◌else◌ mapped each across from reads writes marks initial unordered sc tear_free covers overlap equal both_sc divides unbroken tear_of lookup access_at shape_at reads_at writes_at saw wrote is_init reads_some is_marker meets event_no event inits others row_below pair_below value_at head_bytes event_bytes tear_by data_bytes seen_of written_of row_bytes within head_fits inside init_formed sized kind_fits other_formed formed tear_fits alone stands_first event_fits room_in joins row_rises row_fits parts pair_rises pair_fits place_of allowed head_fault event_fault_by row_fault pair_fault value_fault_by fault_by taken after is_row lacks lowest_lacking appears missing completed finish fields_from parse numbers at_row any_two agent_order row_syncs synchronises init_first step breaks21 breaks22 breaks23 breaks24 untorn untorn_from breaks25 fault21 fault22 fault23 fault24 fault25 fault bar_a bar_b bar_c row_bars clash unsettled unsettled_pair lent admitted settled_of table look through warshall hb_table member put kept without bar_list first_of gated unless_done free search first_order verdict outcome_of outcome
told s room places = let o = outcome s room places in (o.answer, o.order)

abbrev pub comes : Entry → Answer × List ℕ
comes e = told e.sheet e.room e.places

abbrev pub stated : Entry → Answer × List ℕ
stated e = (e.answer, e.order)

pub example_fields : example ≡ sheet (head 1 1 ∷ init 0 (0 ∷ []) ∷ read 1 1 0 (0 ∷ []) ∷ row 1 0 0 ∷ [])
example_fields = refl

pub litmus : each comes proved ≡ each stated proved
unfolding each proved told
litmus = refl

pub litmus_more : each comes further ≡ each stated further
unfolding each further told
litmus_more = refl
