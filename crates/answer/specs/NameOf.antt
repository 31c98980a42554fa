-- The four names of an answer (01, Rules, the column "Names"; What comes back). A name is a number or none.
--     four a b c d    the names a, b, c, d in their places
--     names_of n       the names of a broken rule
--     pair_of s        the names of a consistent answer
-- Assumes nothing.
use Rattle.std.specs.Prelude.{Option, Some, None, ℕ}
use Rattle.answer.specs.declared.Four.{Four}
use Rattle.answer.specs.declared.Names.{Names}
use Rattle.answer.specs.declared.Names.TheVariants.{Row, Event, Between, Torn, Nobody}
use Rattle.answer.specs.declared.Settled.{Settled}
use Rattle.answer.specs.declared.Settled.TheVariants.{Orderly, Unsettled}

abbrev pub four : Option ℕ → Option ℕ → Option ℕ → Option ℕ → Four
four a b c d = (a, b, c, d)

-- 01: 21 and 23 name "R W - A", 22 "E - - -", 24 "R W V A", 25 "R W V -", 26 "- - - -"
abbrev pub names_of : Names → Four
names_of (Row r w a) = four (Some r) (Some w) None (Some a)
names_of (Event e) = four (Some e) None None None
names_of (Between r w v a) = four (Some r) (Some w) (Some v) (Some a)
names_of (Torn r w v) = four (Some r) (Some w) (Some v) None
names_of Nobody = four None None None None

-- 01: "the first two names are the pair, all others 255", which is "none"
abbrev pub pair_of : Settled → Four
pair_of Orderly = four None None None None
pair_of (Unsettled e d) = four (Some e) (Some d) None None
