-- What is lent of the sheets of specs/Examples.antt, computed. Assumes nothing.
use mathlib.Core.Path.{refl}
use Rattle.basis.specs.Test.{◌and◌, ◌or◌, non, any, all, number, keep, find, each, from}
use Rattle.format.specs.Event.{lookup, access_at, shape_at, reads_at, writes_at, saw, wrote, is_init, reads_some, is_marker, meets}
use Rattle.format.specs.Execution.{event_no, event, inits, others, row_below, pair_below}
use Rattle.format.specs.Field.{value_at, field_place}
use Rattle.format.specs.Layout.{head_bytes, event_bytes, tear_by, data_bytes, seen_of, written_of, row_bytes}
use Rattle.format.specs.Shape.{reads, writes, marks, initial, unordered, sc, tear_free, covers, overlap, equal, both_sc, divides, unbroken, tear_of}
use Rattle.content.specs.Content.{within, head_fits, inside, init_formed, sized, kind_fits, other_formed, formed, tear_fits, alone, stands_first, event_fits, room_in, joins, row_rises, row_fits, parts, pair_rises, pair_fits}
use Rattle.parse.specs.Parse.{place_of, allowed, head_fault, event_fault_by, row_fault, pair_fault, value_fault_by, fault_by, taken, after, is_row, lacks, lowest_lacking, appears, missing, completed, finish, fields_from, parse}
use Rattle.encode.specs.Table.{describe, table_of}
use Rattle.encode.specs.Lend.{flat}
use Rattle.lend.specs.Lending.{short_by}
use Rattle.lend.specs.Examples.{examples, Right}

-- The list names every definition that `lent_by` and `held_by` unfold to: a new one joins it, or `refl` fails here.
pub right : Right
unfolding ◌and◌ ◌or◌ non any all number keep find each from examples lookup access_at shape_at reads_at writes_at saw wrote is_init reads_some is_marker meets event_no event inits others row_below pair_below value_at field_place head_bytes event_bytes tear_by data_bytes seen_of written_of row_bytes reads writes marks initial unordered sc tear_free covers overlap equal both_sc divides unbroken tear_of within head_fits inside init_formed sized kind_fits other_formed formed tear_fits alone stands_first event_fits room_in joins row_rises row_fits parts pair_rises pair_fits place_of allowed head_fault event_fault_by row_fault pair_fault value_fault_by fault_by taken after is_row lacks lowest_lacking appears missing completed finish fields_from parse describe table_of flat short_by
right = refl
