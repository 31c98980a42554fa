-- The laws of specs/Number.antt. Assumes nothing.
--     number_some     no fault has the number 0
--     none_told       an answer without a fault stands for 0
--     number_same     two faults with one number are one
use Rattle.std.proofs.Common.{◌≡◌, refl, sym, ap, ◌∙◌, ℕ, [], ◌∷◌}
use Rattle.std.specs.Prelude.{true, false, Result, Ok, Err, is_ok, eqb, get_or}
use Rattle.faults.specs.declared.Fault.{Fault}
use Rattle.faults.specs.declared.Fault.TheVariants.{TooLong, CutShort, OutOfPlace, WrongLength, BadHead, BadEvent, BadRow, BadPair, TooMany, NothingRead, NoSource, AgentMissing}
use Rattle.faults.specs.Number.{number_of, told}

no_zero : (f : Fault) → false ≡ eqb (number_of f) 0
no_zero TooLong = refl
no_zero CutShort = refl
no_zero OutOfPlace = refl
no_zero WrongLength = refl
no_zero BadHead = refl
no_zero BadEvent = refl
no_zero BadRow = refl
no_zero BadPair = refl
no_zero TooMany = refl
no_zero NothingRead = refl
no_zero NoSource = refl
no_zero AgentMissing = refl

pub number_some : (f : Fault) → number_of f ≡ 0 → ⊥
number_some f e = let z : false ≡ true = no_zero f ∙ ap (λ (n : ℕ). eqb n 0) e in cc

pub none_told : {A : Type 0} (r : Result A Fault) → is_ok r ≡ eqb (told r) 0
none_told (Ok a) = refl
none_told (Err f) = no_zero f

-- the faults by their numbers; those that no fault has stand for the first
abbrev fault_at : ℕ → Fault
fault_at n =
    get_or (TooLong ∷ TooLong ∷ CutShort ∷ OutOfPlace ∷ WrongLength ∷ BadHead ∷ BadEvent ∷ BadRow ∷ BadPair ∷ TooMany ∷ NothingRead ∷ NoSource ∷ TooLong ∷ TooLong ∷ AgentMissing ∷ []) n TooLong

back : (f : Fault) → fault_at (number_of f) ≡ f
back TooLong = refl
back CutShort = refl
back OutOfPlace = refl
back WrongLength = refl
back BadHead = refl
back BadEvent = refl
back BadRow = refl
back BadPair = refl
back TooMany = refl
back NothingRead = refl
back NoSource = refl
back AgentMissing = refl

pub number_same : {f g : Fault} → number_of f ≡ number_of g → f ≡ g
number_same {f} {g} e = sym (back f) ∙ ap fault_at e ∙ back g
