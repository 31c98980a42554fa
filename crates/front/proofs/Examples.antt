-- The steps and the model's definitions, computed on the executions of specs/Examples.antt. Assumes nothing.
use mathlib.Core.Path.{refl}
use Rattle.basis.specs.Test.{◌and◌, ◌or◌, non, any, find, keep, ◌else◌, mapped, each, across, from}
use Rattle.format.specs.Shape.{reads, writes, sc, tear_free, covers, overlap, equal, both_sc}
use Rattle.format.specs.Event.{lookup, access_at, shape_at, reads_at, writes_at, saw, wrote, is_init}
use Rattle.format.specs.Execution.{event_no, event}
use Rattle.sets.specs.Mask.{mem, insert, remove}
use Rattle.model.specs.Events.{numbers, at_row, any_two}
use Rattle.model.specs.Happens.{agent_order, row_syncs, synchronises, init_first, step}
use Rattle.model.specs.Rules.{breaks21, breaks22, breaks23, breaks24, untorn, untorn_from, breaks25, fault21, fault22, fault23, fault24, fault25, fault}
use Rattle.model.specs.Bar.{bar_a, bar_b, bar_c, row_bars, bar}
use Rattle.model.specs.Unsettled.{clash, unsettled, unsettled_pair}
use Rattle.model.specs.Judged.{settled_of}
use Rattle.cells.specs.Walk.{up_to, over, picked}
use Rattle.cells.specs.Cells.{gaining, spread, scatter, placing}
use Rattle.cells.specs.First.{first_of}
use Rattle.tables.specs.Tables.{agent_in, shape_in, slot_in, at_in, writes_in, row_in, pair_in}
use Rattle.own.specs.Own.{meets_in, met_in, later_in, own_in}
use Rattle.before.specs.Before.{sync_in, sync_gains, row_steps_in, pair_steps_in, steps_in, columns_in}
use Rattle.alike.specs.Ranges.{hits, sharing, sc_writes, writers_in, as_in, matched_in, side_in, equals_on, equals_in}
use Rattle.bars.specs.Bars.{reasons_in, mask_in, bars_in, filled_in}
use Rattle.answer.specs.Rules.{◌also◌}
use Rattle.torn.specs.Torn.{untorn_in, sources_in, two_in, torn_in, named_in, rule25_in}
use Rattle.torn.specs.Torn.{source_gains, two_sources_in}
use Rattle.rules.specs.Rules.{unlike_in, cyclic_in, between_in, over_in, rule21_in, rule22_in, rule23_in, rule24_in, rest_in, rule_in}
use Rattle.rules.specs.Rules.{turned_in}
use Rattle.settle.specs.Settle.{clashing, clash_in, open_in, settled_in}
use Rattle.front.specs.Examples.{fill_slots, fill_events, fill_rows, added, passing, examples, Right}

pub right : Right
unfolding ◌and◌ ◌or◌ non any find keep ◌else◌ mapped each across from reads writes sc tear_free covers overlap equal both_sc lookup access_at shape_at reads_at writes_at saw wrote is_init event_no event mem insert remove numbers at_row any_two agent_order row_syncs synchronises init_first step breaks21 breaks22 breaks23 breaks24 untorn untorn_from breaks25 fault21 fault22 fault23 fault24 fault25 fault bar_a bar_b bar_c row_bars bar clash unsettled unsettled_pair settled_of up_to over picked gaining spread scatter first_of agent_in shape_in slot_in at_in writes_in row_in pair_in meets_in met_in later_in own_in placing sync_in sync_gains row_steps_in pair_steps_in steps_in columns_in hits sharing sc_writes writers_in as_in matched_in side_in equals_on equals_in reasons_in mask_in bars_in filled_in unlike_in cyclic_in between_in over_in untorn_in sources_in two_in torn_in named_in rule21_in rule22_in rule23_in rule24_in rule25_in ◌also◌ rest_in rule_in turned_in source_gains two_sources_in clashing clash_in open_in settled_in fill_slots fill_events fill_rows added passing examples
right = (refl, refl, refl)
