-- What is claimed of the replies, for all sheets and lists (02 §5). Proved in proofs/Demands.antt.
--     EveryList            every sheet and list get a reply                      Agreement         and one
--     AcceptedExactly      accepted exactly when the list meets the rules        FaultNamed        a list not accepted has the fault that is named, and
--                                                                                                  nothing that is tested before it is at fault
--     AsTheJudge           what the judge refuses or breaks by 21 to 25 is answered so first, and the list is not looked at
--     ReportedAccepted     every order that the judge reports is accepted         AcceptedConsistent     a sheet of which a list is accepted is consistent
--     NoneAccepted         where the judge says 26, no list is accepted
--     Replays              accepted and orderly: run in the order of the list on a plain memory, each read gets its bytes (demand 3)
--     FitsWord             every reply is read back from its word
-- Assumes nothing.
use Rattle.log_order.specs.Listed.{Said}
use Rattle.std.specs.Prelude.{◌≡◌, ◌⊎◌, ◌↔◌, Bool, List, ℕ, length, take}
use Rattle.std.proofs.Math.Option.{none}
use Rattle.format.specs.Execution.{Execution}
use Rattle.parse.specs.WellSheet.{WellSheet}
use Rattle.orders.specs.Order.{Meets}
use Rattle.answer.specs.declared.Names.{Names}
use Rattle.answer.specs.declared.Settled.{Settled}
use Rattle.answer.specs.declared.Settled.TheVariants.{Orderly as AllSettled}
use Rattle.answer.specs.declared.Answer.{Answer}
use Rattle.answer.specs.declared.Answer.TheVariants.{Refused as JudgeRefused, Broken as JudgeBroken, Consistent}
use Rattle.model.specs.Happens.{Tests}
use Rattle.model.specs.Rules.{fault}
use Rattle.model.specs.Order.{problem}
use Rattle.model.specs.Unsettled.{Orderly}
use Rattle.model.specs.Memory.{Explains}
use Rattle.model.specs.Judged.{Judged}
use Rattle.model.specs.Demands.{IsRefused, IsConsistent}
use Rattle.log_order.specs.declared.Fault.{Fault}
use Rattle.std.specs.Prelude.{Ok, Err}
use Rattle.log_order.specs.Means.{Means}
use Rattle.log_check.specs.declared.Reply.{Reply}
use Rattle.log_check.specs.declared.Reply.TheVariants.{Refused, Broken, Listed}
use Rattle.log_check.specs.Checked.{trial, Checked}
use Rattle.log_check.specs.Word.{checked_word, reply_in}

-- 01's demand 1 for this entry: "Any bytes whatever get an answer"
abbrev pub EveryList : Type 0
EveryList = (s l : List ℕ) → (r : Reply) × Checked s l r

-- 01: "That any two conforming answers agree is itself proved"
abbrev pub Agreement : Type 0
Agreement = (s l : List ℕ) (a b : Reply) → Checked s l a → Checked s l b → a ≡ b

-- 02 §5: "accept exactly when the list names every event once and the order meets the rules of 01"
abbrev pub AcceptedExactly : Type 0
AcceptedExactly = (s l : List ℕ) (r : Reply) (x : Execution) (hb : ℕ → ℕ → Bool) → WellSheet s x → Tests x hb → Checked s l r
    → (r ≡ Listed (Ok tt)) ↔ ((fault x hb ≡ none) × Meets (problem x hb) l)

-- 02 §5: "Otherwise give the first fault: .."
abbrev pub FaultNamed : Type 0
FaultNamed = (s l : List ℕ) (f : Fault) (x : Execution) (hb : ℕ → ℕ → Bool) → WellSheet s x → Tests x hb → Checked s l (Listed (Err f))
    → (fault x hb ≡ none) × Means (trial x hb) l f

-- 02 §5: "A sheet that is refused or broken by 21 to 25 is answered so first, as 01 does". The judge lent too little says 12 or 13; 26 is of orders.
abbrev pub Alike : Answer → Reply → Type 0
Alike (JudgeRefused n p) r = (r ≡ Refused n p) ⊎ ((n ≡ 12) ⊎ (n ≡ 13))
Alike (JudgeBroken n names) r = (r ≡ Broken n names) ⊎ ((n ≡ 26) × ((f : Fault) × (r ≡ Listed (Err f))))
Alike (Consistent t) r = (said : Said) × (r ≡ Listed said)

abbrev pub AsTheJudge : Type 0
AsTheJudge = (s l scratch order : List ℕ) (a : Answer) (scratch' order' : List ℕ) (r : Reply) → Judged s scratch order a scratch' order' → Checked s l r
    → Alike a r

-- 02 §5: "Every order the judge reports must be accepted here."
abbrev pub ReportedAccepted : Type 0
ReportedAccepted = (s scratch order : List ℕ) (t : Settled) (scratch' order' : List ℕ) (x : Execution) (r : Reply) → WellSheet s x
    → Judged s scratch order (Consistent t) scratch' order' → Checked s (take (length x.events) order') r → r ≡ Listed (Ok tt)

abbrev pub AcceptedConsistent : Type 0
AcceptedConsistent = (s l scratch order : List ℕ) (a : Answer) (scratch' order' : List ℕ) → Checked s l (Listed (Ok tt))
    → Judged s scratch order a scratch' order' → (IsRefused a → ⊥) → IsConsistent a

abbrev pub NoneAccepted : Type 0
NoneAccepted = (s l scratch order : List ℕ) (names : Names) (scratch' order' : List ℕ) → Judged s scratch order (JudgeBroken 26 names) scratch' order'
    → Checked s l (Listed (Ok tt)) → ⊥

-- 02 §5: "Demand 3 covers accepted lists too." Whether the execution is orderly is the judge's answer.
pub record Replays : Type 0 where
  pub orderly : (s l : List ℕ) (x : Execution) (hb : ℕ → ℕ → Bool) → WellSheet s x → Tests x hb → Orderly x hb → Checked s l (Listed (Ok tt))
      → (m : ℕ → ℕ) → Explains x m l
  pub judged : (s l scratch order scratch' order' : List ℕ) (x : Execution) → WellSheet s x → Judged s scratch order (Consistent AllSettled) scratch' order'
      → Checked s l (Listed (Ok tt)) → (m : ℕ → ℕ) → Explains x m l

abbrev pub FitsWord : Type 0
FitsWord = (s l : List ℕ) (r : Reply) → Checked s l r → reply_in (checked_word r) ≡ r
