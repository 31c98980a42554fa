-- The writer's definitions, computed on the slices of specs/Examples.antt. Assumes nothing.
use mathlib.Core.Path.{refl}
use Rattle.basis.specs.Test.{◌and◌, ◌or◌, non, any, all, number, keep, find, each, from}
use Rattle.format.specs.Event.{lookup, access_at, shape_at, reads_at, writes_at, saw, wrote, is_init, reads_some, is_marker, meets}
use Rattle.format.specs.Execution.{event_no, event, inits, others, row_below, pair_below}
use Rattle.format.specs.Field.{value_at, field_place}
use Rattle.format.specs.Layout.{head_bytes, event_bytes, tear_by, data_bytes, seen_of, written_of, row_bytes}
use Rattle.format.specs.Shape.{reads, writes, marks, initial, unordered, sc, tear_free, covers, overlap, equal, both_sc, divides, unbroken, tear_of}
use Rattle.content.specs.Content.{within, head_fits, inside, init_formed, sized, kind_fits, other_formed, formed, tear_fits, alone, stands_first, event_fits, room_in, joins, row_rises, row_fits, parts, pair_rises, pair_fits}
use Rattle.parse.specs.Parse.{place_of, allowed, head_fault, event_fault_by, row_fault, pair_fault, value_fault_by, fault_by, taken, after, is_row, lacks, lowest_lacking, appears, missing, completed, finish, fields_from, parse}
use Rattle.encode.specs.Encode.{field, kind_byte, run, encode}
use Rattle.encode.specs.Lent.{entries, data_from, lent}
use Rattle.encode.specs.Index.{same_from, no_entry, index_of}
use Rattle.writer.specs.Written.{told}
use Rattle.writer.specs.Examples.{examples, Right}

-- The list names every definition that `told`, `encode` and `lent` unfold to: a new one joins it, or `refl` fails here.
pub right : Right
unfolding ◌and◌ ◌or◌ non any all number keep find each from examples lookup access_at shape_at reads_at writes_at saw wrote is_init reads_some is_marker meets event_no event inits others row_below pair_below value_at field_place head_bytes event_bytes tear_by data_bytes seen_of written_of row_bytes reads writes marks initial unordered sc tear_free covers overlap equal both_sc divides unbroken tear_of within head_fits inside init_formed sized kind_fits other_formed formed tear_fits alone stands_first event_fits room_in joins row_rises row_fits parts pair_rises pair_fits place_of allowed head_fault event_fault_by row_fault pair_fault value_fault_by fault_by taken after is_row lacks lowest_lacking appears missing completed finish fields_from parse field kind_byte run encode entries data_from lent same_from no_entry index_of told
right = record { bytes = refl; says = refl }
