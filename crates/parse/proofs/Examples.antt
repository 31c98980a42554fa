-- `parse`, computed on the sheets of specs/Examples.antt, and the longest sheet; the reader with 16 on those of specs/Raised.antt. Assumes nothing.
use mathlib.Core.Path.{◌≡◌, refl}
use mathlib.Core.List.{List}
use Prim.Native.Nat.{ℕ}
use native.Mathlib.Omega.{arith}
use lib.ListN.{length}
use Rattle.basis.specs.Test.{◌and◌, ◌or◌, non, any, all, number, keep, find, each, from}
use Rattle.format.specs.Event.{lookup, access_at, shape_at, reads_at, writes_at, saw, wrote, is_init, reads_some, is_marker, meets}
use Rattle.format.specs.Execution.{event_no, event, inits, others, row_below, pair_below}
use Rattle.format.specs.Field.{value_at, field_place}
use Rattle.format.specs.Layout.{head_bytes, event_bytes, tear_by, data_bytes, seen_of, written_of, row_bytes}
use Rattle.format.specs.Shape.{reads, writes, marks, initial, unordered, sc, tear_free, covers, overlap, equal, both_sc, divides, unbroken, tear_of}
use Rattle.content.specs.Content.{within, head_fits, inside, init_formed, sized, kind_fits, other_formed, formed, tear_fits, alone, stands_first, event_fits, room_in, joins, row_rises, row_fits, parts, pair_rises, pair_fits}
use Rattle.parse.specs.Parse.{place_of, allowed, head_fault, event_fault_by, row_fault, pair_fault, value_fault_by, fault_by, taken, after, is_row, lacks, lowest_lacking, appears, missing, completed, finish, fields_from, parse}
use Rattle.parse.specs.Examples.{examples, Right, Longest}
use Rattle.parse.specs.Raised.{room_up_to, fields_up_to, parse_up_to, with_sixteen, RightWithSixteen}
use Rattle.parse.specs.Refusal.{Refusal}
use Rattle.parse.proofs.ParseLaws.{too_long}
use Rattle.parse.proofs.RefusalLaws.{refusal, blames_number}

-- The list names every definition that `parse` unfolds to: a new one joins it, or `refl` fails here.
computed : Right × RightWithSixteen
unfolding ◌and◌ ◌or◌ non any all number keep find each from examples lookup access_at shape_at reads_at writes_at saw wrote is_init reads_some is_marker meets event_no event inits others row_below pair_below value_at field_place head_bytes event_bytes tear_by data_bytes seen_of written_of row_bytes reads writes marks initial unordered sc tear_free covers overlap equal both_sc divides unbroken tear_of within head_fits inside init_formed sized kind_fits other_formed formed tear_fits alone stands_first event_fits room_in joins row_rises row_fits parts pair_rises pair_fits place_of allowed head_fault event_fault_by row_fault pair_fault value_fault_by fault_by taken after is_row lacks lowest_lacking appears missing completed finish fields_from parse with_sixteen room_up_to fields_up_to parse_up_to
computed = (refl, refl)

pub right : Right
right = computed.0

pub right_with_sixteen : RightWithSixteen
right_with_sixteen = computed.1

-- only `too_long` has the number 1
not_one : (s : List ℕ) {n p : ℕ} → Refusal s n p → n ≡ 1 → length s ≡ 4096 → ⊥
not_one s (Refusal.too_long h) e l = omega arith
not_one s (Refusal.at_field k a h b) e l = let w = blames_number b.blames in omega arith
not_one s (Refusal.empty h) e l = omega arith
not_one s (Refusal.none_reads a f h) e l = omega arith
not_one s (Refusal.no_event a b f d r i j h) e l = omega arith
not_one s (Refusal.no_row i a f d b u t r h) e l = omega arith

pub longest : Longest
longest = ((λ s h. too_long s (omega arith)), λ s p h e. not_one s (refusal s 1 p e) refl h)
