-- The report line (01, What comes back) up to where the order begins, as bytes. Laws: proofs/HeadLaws.antt.
--     name_text n        a space and the name n, `-` for none
--     names_text f       four names
--     refused_text n p, broken_text n names, settled_text s    the lines of each kind, up to where the order begins
--     head_of x          the line of x up to where the order begins
-- Assumes nothing.
use Rattle.std.specs.Prelude.{ℕ, List, ◌++◌, Option, Some, None}
use Rattle.answer.specs.declared.Four.{Four}
use Rattle.answer.specs.declared.Names.{Names}
use Rattle.answer.specs.declared.Settled.{Settled}
use Rattle.answer.specs.declared.Settled.TheVariants.{Orderly, Unsettled}
use Rattle.answer.specs.declared.Answer.{Answer}
use Rattle.answer.specs.declared.Answer.TheVariants.{Refused, Broken, Consistent}
use Rattle.answer.specs.NameOf.{names_of}
use Rattle.puts.specs.Text.{text}
use Rattle.puts.specs.Numbers.{numbered}

-- 01: "`-` for none"
abbrev pub name_text : Option ℕ → List ℕ
name_text (Some n) = numbered n
name_text None = text " -"

abbrev pub names_text : Four → List ℕ
names_text f = name_text f.0 ++ name_text f.1 ++ name_text f.2 ++ name_text f.3

-- 01: "`refused N at P`"
abbrev pub refused_text : ℕ → ℕ → List ℕ
refused_text n p = text "refused" ++ numbered n ++ text " at" ++ numbered p

-- 01: "`broken N R W V A`"
abbrev pub broken_text : ℕ → Names → List ℕ
broken_text n names = text "broken" ++ numbered n ++ names_text (names_of names)

-- 01: "`consistent orderly then` or `consistent unsettled E D then`"
abbrev pub settled_text : Settled → List ℕ
settled_text Orderly = text "consistent orderly then"
settled_text (Unsettled e d) = text "consistent unsettled" ++ numbered e ++ numbered d ++ text " then"

abbrev pub head_of : Answer → List ℕ
head_of (Refused n p) = refused_text n p
head_of (Broken n names) = broken_text n names
head_of (Consistent s) = settled_text s
