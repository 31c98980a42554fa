-- An answer read back from its word alone (01, What comes back), as the C header's macros do it. Laws: proofs/ReadLaws.antt.
--     kind_in w, number_in w, place_in w     kind, number and place           byte_in w i     the byte of name i, 0 to 3
--     four_in w                            the four names, 255 as none      answer_in w     the answer
-- Assumes nothing.
use Rattle.std.specs.Prelude.{cond, ℕ, ◌-◌, ◌*◌, ◌^◌, ◌/◌, ◌%◌, eqb, Option, Some, None}
use Rattle.answer.specs.declared.Four.{Four}
use Rattle.answer.specs.declared.Names.{Names}
use Rattle.answer.specs.declared.Names.TheVariants.{Row, Event, Between, Torn, Nobody}
use Rattle.answer.specs.declared.Settled.{Settled}
use Rattle.answer.specs.declared.Settled.TheVariants.{Orderly, Unsettled}
use Rattle.answer.specs.declared.Answer.{Answer}
use Rattle.answer.specs.declared.Answer.TheVariants.{Refused, Broken, Consistent}
use Rattle.answer.specs.NameOf.{four}

-- PLIMDRONG_KIND, PLIMDRONG_NUMBER, PLIMDRONG_PLACE, PLIMDRONG_NAME
abbrev pub kind_in : ℕ → ℕ
kind_in w = w / 2 ^ 40 % 2 ^ 8

abbrev pub number_in : ℕ → ℕ
number_in w = w / 2 ^ 32 % 2 ^ 8

abbrev pub place_in : ℕ → ℕ
place_in w = w % 2 ^ 32

abbrev pub byte_in : ℕ → ℕ → ℕ
byte_in w i = w / 2 ^ (24 - 8 * i) % 2 ^ 8

-- 01: "255 for none"
unfoldable pub name_of : ℕ → Option ℕ
name_of b = cond (eqb b 255) None (Some b)

abbrev pub four_in : ℕ → Four
four_in w = four (name_of (byte_in w 0)) (name_of (byte_in w 1)) (name_of (byte_in w 2)) (name_of (byte_in w 3))

-- 01: 21 and 23 name "R W - A", 22 "E - - -", 24 "R W V A", 25 "R W V -", 26 "- - - -"
abbrev pub names_in : Option ℕ → Option ℕ → Option ℕ → Option ℕ → Names
names_in (Some r) (Some w) (Some v) (Some a) = Between r w v a
names_in (Some r) (Some w) (Some v) None = Torn r w v
names_in (Some r) (Some w) None (Some a) = Row r w a
names_in (Some e) (Some w) None None = Nobody
names_in (Some e) None v a = Event e
names_in None w v a = Nobody

-- 01: "the first two names are the pair"
abbrev pub pair_named : Option ℕ → Option ℕ → Settled
pair_named (Some e) (Some d) = Unsettled e d
pair_named (Some e) None = Orderly
pair_named None d = Orderly

-- 01: "kind (1, 2, 3)"
unfoldable pub answer_in : ℕ → Answer
answer_in w =
    cond (eqb (kind_in w) 1) (Refused (number_in w) (place_in w))
    (cond (eqb (kind_in w) 2) (Broken (number_in w) (names_in (four_in w).0 (four_in w).1 (four_in w).2 (four_in w).3))
    (Consistent (pair_named (four_in w).0 (four_in w).1)))
