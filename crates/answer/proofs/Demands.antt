-- The promises of specs/Demands.antt hold. Assumes nothing.
use Rattle.answer.specs.Demands.{Bounded, Parts, ReadBack, WordsApart}
use Rattle.answer.proofs.WordLaws.{packed_below, packed_kind, packed_number, packed_rest}
use Rattle.answer.proofs.ReadLaws.{answer_in_lem, packed_unique}

pub bounded : Bounded
bounded = packed_below

pub parts : Parts
parts x h = (packed_kind x h, packed_number x h, packed_rest x h)

pub read_back : ReadBack
read_back = answer_in_lem

pub words_apart : WordsApart
words_apart = packed_unique
