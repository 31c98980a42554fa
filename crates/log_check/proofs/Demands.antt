-- Each claim of specs/Demands.antt. Assumes nothing.
use mathlib.Core.Path.{◌≡◌, refl, sym, ap, ◌∙◌, subst}
use mathlib.Core.Logic.{◌⊎◌, ◌↔◌, inl, inr, ⊎_elim}
use mathlib.Core.Bool.{Bool}
use mathlib.Core.List.{List}
use mathlib.Core.Option.{Option, none, some}
use Prim.Native.Nat.{ℕ}
use native.Mathlib.Omega.{arith}
use lib.ListN.{length, take, replicate}
use Rattle.basis.proofs.FindLaws.{find_none}
use Rattle.format.specs.declared.Row.{Row}
use Rattle.format.specs.Execution.{Execution}
use Rattle.parse.specs.Parse.{Parsed, refused, whole, parse}
use Rattle.parse.specs.Promise.{WellFormed}
use Rattle.parse.specs.WellSheet.{WellSheet}
use Rattle.parse.proofs.PromiseLaws.{promise}
use Rattle.parse.proofs.WellSheetLaws.{exactly}
use Rattle.orders.specs.Order.{Meets}
use Rattle.orders.proofs.OrderLaws.{precedes_in}
use Rattle.answer.specs.declared.Names.{Names}
use Rattle.answer.specs.declared.Answer.TheVariants.{Refused as JudgeRefused, Broken as JudgeBroken, Consistent}
use Rattle.answer.specs.Fit.{Fits}
use Rattle.model.specs.Happens.{Tests}
use Rattle.model.specs.Rules.{Fault as RuleFault, faulty, breaks22, fault}
use Rattle.model.specs.Bar.{bar}
use Rattle.model.specs.Order.{problem}
use Rattle.model.specs.Judged.{lent, admitted, Breaks}
use Rattle.model.proofs.Sound.{Sound, sound}
use Rattle.model.proofs.EventsLaws.{number_mem}
use Rattle.model.proofs.HappensLaws.{happens_inside}
use Rattle.model.proofs.RulesLaws.{clean}
use Rattle.model.proofs.Serial.{explains}
use Rattle.model.proofs.VerdictLaws.{few_events}
use Rattle.model.proofs.FitLaws.{judged_fits, breaks_fits, reader_below, writer_below, address_below}
use Rattle.model.proofs.JudgedLaws.{admitted_whole, Short, scratch_short, order_short, refused_cases, moved, same_whole}
use Rattle.model.proofs.Demands.{testable, demand3}
use Rattle.log_order.specs.declared.Fault.{Fault}
use Rattle.log_order.specs.declared.Fault.TheVariants.{WrongLength, BadNumber, TooEarly, Barred}
use Rattle.std.specs.Prelude.{Ok, Err}
use Rattle.log_order.specs.Listed.{Said, list_fault, said_of}
use Rattle.log_order.specs.Means.{Means}
use Rattle.log_order.specs.Promises.{Strict}
use Rattle.log_order.proofs.ListLaws.{has_length}
use Rattle.log_order.proofs.Promises.{accepted_is_meets, fault_means_it}
use Rattle.log_check.specs.declared.Reply.{Reply}
use Rattle.log_check.specs.declared.Reply.TheVariants.{Refused, Broken, Listed}
use Rattle.log_check.specs.Checked.{trial, CheckedBroken, CheckedList, Checked}
use Rattle.log_check.specs.Word.{FitsFault, FitsReply}
use Rattle.log_check.specs.Demands.{EveryList, Agreement, AcceptedExactly, FaultNamed, Alike, AsTheJudge, ReportedAccepted, AcceptedConsistent, NoneAccepted, Replays, FitsWord}
use Rattle.log_check.proofs.CheckedLaws.{checked_unique}
use Rattle.log_check.proofs.WordLaws.{reply_in_lem}

-- ---- every list gets a reply

pub every_list : EveryList
every_list s l = go (parse s) refl
  where
    broken : (x : Execution) → parse s ≡ whole x → (hb : ℕ → ℕ → Bool) → Tests x hb → (o : Option RuleFault) → fault x hb ≡ o → (r : Reply) × Checked s l r
    broken x e hb t none f =
        (Listed (said_of (list_fault (trial x hb) l)), record { execution = x; describes = e; hb = hb; tests = t; unbroken = f; says = refl })
    broken x e hb t (some g) f = (Broken g.number g.names, record { execution = x; describes = e; hb = hb; tests = t; breaks = f })

    go : (o : Parsed) → parse s ≡ o → (r : Reply) × Checked s l r
    go (refused n p) e = (Refused n p, record { says = e })
    go (whole x) e = let w = testable s x ((exactly s x).0 e) in broken x e w.0 w.1 (fault x w.0) refl

pub agreement : Agreement
agreement s l a b = checked_unique s l a b

-- ---- an execution of which no rule of 21 to 25 is broken

module _ (x : Execution) (hb : ℕ → ℕ → Bool) (so : Sound x) (tests : Tests x hb) (unbroken : fault x hb ≡ none) where
  strict : Strict (trial x hb)
  unfolding breaks22
  strict =
      record {
        inside = λ a b t. happens_inside x so ((tests a b).0 t);
        apart = λ a t. find_none (breaks22 hb) _ (clean x hb unbroken).c22 a (number_mem x a (happens_inside x so ((tests a a).0 t)).0) t;
      }

  meets_iff : (l : List ℕ) → (said_of (list_fault (trial x hb) l) ≡ (Ok tt)) ↔ Meets (problem x hb) l
  unfolding bar
  meets_iff l = accepted_is_meets (trial x hb) strict l

-- ---- what a reply says of the sheet's own execution

module _ (s l : List ℕ) (x : Execution) (hb : ℕ → ℕ → Bool) (d : parse s ≡ whole x) (tests : Tests x hb) where
  so : Sound x
  so = sound x (promise s x d)

  pub record Tells (said : Said) : Type 0 where
    pub unbroken : fault x hb ≡ none
    pub says : said ≡ said_of (list_fault (trial x hb) l)

  tells : (said : Said) → CheckedList s l said → Tells said
  tells said j =
      let e = same_whole j.describes d in
      record {
        unbroken = moved e j.hb hb j.tests tests (λ y f. fault y f ≡ none) j.unbroken;
        says = moved e j.hb hb j.tests tests (λ y f. said ≡ said_of (list_fault (trial y f) l)) j.says;
      }

  said_of_lem : fault x hb ≡ none → (r : Reply) → Checked s l r → r ≡ Listed (said_of (list_fault (trial x hb) l))
  said_of_lem u r j = checked_unique s l r (Listed (said_of (list_fault (trial x hb) l))) j (record { execution = x; describes = d; hb = hb; tests = tests; unbroken = u; says = refl })

  broken_of : (f : RuleFault) → fault x hb ≡ some f → (r : Reply) → Checked s l r → r ≡ Broken f.number f.names
  broken_of f u r j = checked_unique s l r (Broken f.number f.names) j (record { execution = x; describes = d; hb = hb; tests = tests; breaks = u })

  exactly_meets : (r : Reply) → Checked s l r → (r ≡ Listed (Ok tt)) ↔ ((fault x hb ≡ none) × Meets (problem x hb) l)
  exactly_meets r j = (
    (λ e. let t = tells (Ok tt) (subst (Checked s l) e j) in (t.unbroken, (meets_iff x hb so tests t.unbroken l).0 (sym t.says))),
    (λ m. said_of_lem m.0 r j ∙ ap Listed ((meets_iff x hb so tests m.0 l).1 m.1)),
  )

whole_of : (s : List ℕ) (x : Execution) → WellSheet s x → parse s ≡ whole x
whole_of s x w = (exactly s x).1 w

pub accepted_exactly : AcceptedExactly
accepted_exactly s l r x hb w tests j = exactly_meets s l x hb (whole_of s x w) tests r j

pub fault_named : FaultNamed
fault_named s l f x hb w tests j =
    let d = whole_of s x w in
    let t = tells s l x hb d tests (Err f) j in
    (t.unbroken, fault_means_it (trial x hb) (strict x hb (sound x (promise s x d)) tests t.unbroken) l f (sym t.says))

-- ---- beside the judge

short_number : {s : List ℕ} {room places n p : ℕ} → Short s room places n p → (n ≡ 12) ⊎ (n ≡ 13)
short_number (scratch_short x d h) = inl refl
short_number (order_short x d h k) = inr refl

pub as_the_judge : AsTheJudge
as_the_judge s l scratch order (JudgeRefused n p) scratch' order' r j k =
    ⊎_elim (λ e. inl (checked_unique s l r (Refused n p) k (record { says = e }))) (λ e. inr (short_number e))
    (refused_cases s (length scratch) (length order) n p j.says)
as_the_judge s l scratch order (JudgeBroken n names) scratch' order' r j k = go j.breaks
  where
    d : parse s ≡ whole j.execution
    d = (admitted_whole s (length scratch) (length order) j.execution j.describes).describes

    rejected : fault j.execution j.hb ≡ none → ((o : List ℕ) → Meets (problem j.execution j.hb) o → ⊥) → (said : Said)
        → said ≡ said_of (list_fault (trial j.execution j.hb) l) → (f : Fault) × (Listed said ≡ Listed (Err f))
    rejected u none_meets (Ok v) e =
        absurd (none_meets l ((meets_iff j.execution j.hb (sound j.execution (promise s j.execution d)) j.tests u l).0 (sym e)))
    rejected u none_meets (Err f) e = (f, refl)

    go : Breaks j.execution j.hb (faulty n names) → Alike (JudgeBroken n names) r
    go (inl e) = inl (broken_of s l j.execution j.hb d j.tests (faulty n names) e r k)
    go (inr u) =
        let i = said_of_lem s l j.execution j.hb d j.tests u.unbroken r k in
        let w = rejected u.unbroken u.no_order (said_of (list_fault (trial j.execution j.hb) l)) refl in
        inr (ap (λ (f : RuleFault). f.number) u.names, (w.0, i ∙ w.1))
as_the_judge s l scratch order (Consistent t) scratch' order' r j k =
    let d = (admitted_whole s (length scratch) (length order) j.execution j.describes).describes in
    (said_of (list_fault (trial j.execution j.hb) l), said_of_lem s l j.execution j.hb d j.tests j.unbroken r k)

pub reported_accepted : ReportedAccepted
reported_accepted s scratch order t scratch' order' x r w j k =
    let d = (admitted_whole s (length scratch) (length order) j.execution j.describes).describes in
    let e = same_whole d (whole_of s x w) in
    (exactly_meets s (take (length x.events) order') j.execution j.hb d j.tests r k).1
    (j.unbroken, subst (λ (y : Execution). Meets (problem j.execution j.hb) (take (length y.events) order')) e j.first.is)

pub accepted_consistent : AcceptedConsistent
accepted_consistent s l scratch order (JudgeRefused n p) scratch' order' k j here = absurd (here (n, p, refl))
accepted_consistent s l scratch order (JudgeBroken n names) scratch' order' k j here =
    absurd (⊎_elim (λ e. let z : ◌≡◌ {A = ℕ} 0 1 = cc in omega arith) (λ w. rejects w.1.0 w.1.1) (as_the_judge s l scratch order (JudgeBroken n names) scratch' order' (Listed (Ok tt)) j k))
  where
    rejects : (f : Fault) → Listed (Ok tt) ≡ Listed (Err f) → ⊥
    rejects f e = let z : ◌≡◌ {A = ℕ} 0 1 = cc in omega arith
accepted_consistent s l scratch order (Consistent t) scratch' order' k j here = (t, refl)

pub none_accepted : NoneAccepted
none_accepted s l scratch order names scratch' order' j k =
    let w = accepted_consistent s l scratch order (JudgeBroken 26 names) scratch' order' k j (λ r. refuses r.0 r.1 r.2) in
    consistent w.0 w.1
  where
    refuses : (n p : ℕ) → JudgeBroken 26 names ≡ JudgeRefused n p → ⊥
    refuses n p e = let z : ◌≡◌ {A = ℕ} 0 1 = cc in omega arith

    consistent : (t : _) → JudgeBroken 26 names ≡ Consistent t → ⊥
    consistent t e = let z : ◌≡◌ {A = ℕ} 0 1 = cc in omega arith

-- ---- demand 3

pub replays : Replays
replays =
    record {
      orderly = λ s l x hb w tests o k m.
          let d = whole_of s x w in
          let a = (exactly_meets s l x hb d tests (Listed (Ok tt)) k).0 refl in
          explains x hb (sound x (promise s x d)) tests a.0 o l a.1 m;
      judged = λ s l scratch order scratch' order' x w j k m.
          let t = testable s x w in
          let a = (exactly_meets s l x t.0 (whole_of s x w) t.1 (Listed (Ok tt)) k).0 refl in
          demand3 s scratch order scratch' order' x t.0 w t.1 j l a.1 m;
    }

-- ---- the word

refused_fits : (s : List ℕ) (n p : ℕ) → parse s ≡ refused n p → Fits 255 (JudgeRefused n p)
unfolding admitted lent
refused_fits s n p e = judged_fits s (replicate 0 0) (replicate 0 0) (JudgeRefused n p) (replicate 0 0) (replicate 0 0) (record { says = rw e; scratch_kept = refl; order_kept = refl })

broken_fits : (s : List ℕ) (n : ℕ) (names : Names) → CheckedBroken s (faulty n names) → Fits 255 (JudgeBroken n names)
broken_fits s n names j = breaks_fits j.execution (promise s j.execution j.describes) j.hb j.tests n names (inl j.breaks)

module _ (x : Execution) (hb : ℕ → ℕ → Bool) (wf : WellFormed x) (l : List ℕ) where
  fault_fits : (f : Fault) → Means (trial x hb) l f → FitsFault f
  fault_fits (WrongLength k) m = let t = m.told in omega arith
  fault_fits (BadNumber i) m = let p = m.place in let n = m.long in let f = few_events x wf in omega arith
  fault_fits (TooEarly i) m = let p = m.place in let n = has_length (length x.events) l m.events.events m.events.once m.events.all in let f = few_events x wf in omega arith
  fault_fits (Barred r w v a) m =
      let here = m.there in
      let f = few_events x wf in
      let reader = reader_below x wf m.number here in
      let writer = writer_below x wf m.number here in
      let address = address_below x wf m.number here in
      let e = m.row in
      let i = m.events.events v (precedes_in w v l m.crossed.0) in
      (omega (arith, reader, ap (λ (p : Row). p.reader) e), omega (arith, writer, ap (λ (p : Row). p.writer) e), omega (arith, i, f), omega (arith, address, ap (λ (p : Row). p.address) e))

pub checked_fits : (s l : List ℕ) (r : Reply) → Checked s l r → FitsReply r
checked_fits s l (Refused n p) j = refused_fits s n p j.says
checked_fits s l (Broken n names) j = broken_fits s n names j
checked_fits s l (Listed (Ok u)) j = tt
checked_fits s l (Listed (Err f)) j =
    let wf = promise s j.execution j.describes in
    fault_fits j.execution j.hb wf l f
    (fault_means_it (trial j.execution j.hb) (strict j.execution j.hb (sound j.execution wf) j.tests j.unbroken) l f (sym j.says))

pub fits_word : FitsWord
fits_word s l r j = reply_in_lem r (checked_fits s l r j)
