-- The numbers of the refusals (crates/parse/specs/Parse.antt): the code names each fault, the definitions number it. `Fault` is the source's own enum.
--     number_of f     the number of the fault f
--     told r          the number that an answer stands for: 0 where there is no fault
-- Laws: proofs/NumberLaws.antt.
-- Assumes nothing.
use Rattle.std.specs.Prelude.{ℕ, Result, Ok, Err}
use Rattle.faults.specs.declared.Fault.{Fault}
use Rattle.faults.specs.declared.Fault.TheVariants.{TooLong, CutShort, OutOfPlace, WrongLength, BadHead, BadEvent, BadRow, BadPair, TooMany, NothingRead, NoSource, AgentMissing}

abbrev pub number_of : Fault → ℕ
number_of TooLong = 1
number_of CutShort = 2
number_of OutOfPlace = 3
number_of WrongLength = 4
number_of BadHead = 5
number_of BadEvent = 6
number_of BadRow = 7
number_of BadPair = 8
number_of TooMany = 9
number_of NothingRead = 10
number_of NoSource = 11
number_of AgentMissing = 14

abbrev pub told : {A : Type 0} → Result A Fault → ℕ
told (Ok a) = 0
told (Err f) = number_of f
