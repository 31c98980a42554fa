-- The laws of specs/Checked.antt. Assumes nothing.
--     checked_refused, checked_broken, checked_list     how the code's replies are made: what the tables say is what the sheet's execution says
--     checked_unique                                    two conforming replies are equal
use mathlib.Core.Path.{◌≡◌, sym, ap, ap₂, ◌∙◌, subst}
use mathlib.Core.List.{List, Memᴰ}
use mathlib.Core.Option.{some}
use Prim.Native.Nat.{ℕ, min}
use native.Mathlib.Omega.{arith}
use lib.ListN.{replicate}
use Rattle.format.specs.declared.Row.{Row}
use Rattle.format.specs.Execution.{Execution}
use Rattle.entries.specs.declared.Counts.{Counts}
use Rattle.entries.specs.Entries.{execution}
use Rattle.parse.specs.Parse.{refused, parse}
use Rattle.parse.specs.Promise.{WellFormed}
use Rattle.parse.proofs.PromiseLaws.{promise}
use Rattle.sheet.specs.Handed.{HandedWhole}
use Rattle.sets.specs.Mask.{slots}
use Rattle.answer.specs.declared.Names.{Names}
use Rattle.answer.specs.Rules.{Rule, unbreached, breach}
use Rattle.tables.specs.Tables.{columns, row_room, row_cells, pair_cells}
use Rattle.lay.specs.Lay.{events_put, rows_put, Layered}
use Rattle.prepare.specs.Prepared.{Ruled}
use Rattle.model.specs.Rules.{faulty, fault}
use Rattle.model.specs.Bar.{row_bars}
use Rattle.model.proofs.Sound.{sound}
use Rattle.model.proofs.JudgedLaws.{moved, same_whole, never_both}
use Rattle.front.specs.Tabled.{hb_of, found_of, Held}
use Rattle.front.proofs.SheetLaws.{sheet_held, sheet_rules, held_row}
use Rattle.log_order.specs.Listed.{Said, list_fault, said_of}
use Rattle.log_order.specs.Trial.{trial_in}
use Rattle.log_order.proofs.TrialLaws.{fault_same}
use Rattle.log_check.specs.declared.Reply.{Reply}
use Rattle.log_check.specs.declared.Reply.TheVariants.{Refused, Broken, Listed}
use Rattle.log_check.specs.Checked.{trial, CheckedRefused, CheckedBroken, CheckedList, Checked}

pub checked_refused : {s : List ℕ} {n p : ℕ} → parse s ≡ refused n p → CheckedRefused s n p
checked_refused e = record { says = e }

module _ {s : List ℕ} {x : Counts} {at : List ℕ} (h : HandedWhole s x at) {t q succ pred : List ℕ} {rule : Rule}
    (accesses : t ≡ events_put s x.head.edition at (min x.events slots) (replicate columns 0))
    (rows : q ≡ rows_put s x at t (min x.rows row_room) (replicate row_cells 0)) (w : Ruled s x t q (replicate slots 0) succ (replicate slots 0) pred rule) where
  laid : Layered s x at (replicate columns 0) t (replicate row_cells 0) q (replicate pair_cells 0) w.p
  laid = record { events = accesses; rows = rows; pairs = w.pairs }

  abbrev X : Execution
  X = execution s x at

  well : WellFormed X
  well = promise s X h.says

  held : Held X x.events x.rows t q w.after w.before
  held = sheet_held h.laid well laid w.ordered

  found : found_of rule ≡ fault X (hb_of w.after)
  found = ap found_of w.says ∙ sheet_rules h.laid well laid w.ordered

  pub checked_broken : {n : ℕ} {names : Names} → rule ≡ breach n names → CheckedBroken s (faulty n names)
  checked_broken k =
      record { execution = X; describes = h.says; hb = hb_of w.after; tests = held.tests; breaks = sym found ∙ ap found_of k }

  -- what a list is held against, over the tables and over the execution
  same_trial : (l : List ℕ) → list_fault (trial_in (min x.events slots) t w.after w.before q (min x.rows row_room)) l ≡ list_fault (trial X (hb_of w.after)) l
  same_trial l =
      let few = held.tabled.few in
      let rows_few = held.rows_few in
      let a : min x.events slots ≡ x.events = omega arith in
      let b : min x.rows row_room ≡ x.rows = omega arith in
      ap₂ (λ (n m : ℕ). list_fault (trial_in n t w.after w.before q m) l) a b
      ∙ fault_same (trial_in x.events t w.after w.before q x.rows) (hb_of w.after) (row_bars X (hb_of w.after)) (λ e d. held.turned e d)
      (λ d v i k. held_row held (sound X well) d (subst (λ (z : List Row). Memᴰ d z) (sym held.rowed) i) v (omega arith)) l
      ∙ ap₂ (λ (n : ℕ) (z : List Row). list_fault (record { events = n; before = hb_of w.after; rows = z; bars = row_bars X (hb_of w.after) }) l) (sym held.tabled.count) (sym held.rowed)

  pub checked_list : rule ≡ unbreached → (l : List ℕ) {said : Said} → said ≡ said_of (list_fault (trial_in (min x.events slots) t succ pred q (min x.rows row_room)) l)
      → CheckedList s l said
  checked_list k l e =
      record {
        execution = X;
        describes = h.says;
        hb = hb_of w.after;
        tests = held.tests;
        unbroken = sym found ∙ ap found_of k;
        says = e ∙ ap₂ (λ (a b : List ℕ). said_of (list_fault (trial_in (min x.events slots) t a b q (min x.rows row_room)) l)) (w.left k).0 (w.left k).1 ∙ ap said_of (same_trial l);
      }

-- ---- agreement

module _ (s l : List ℕ) where
  broken_same : (n : ℕ) (a : Names) (m : ℕ) (b : Names) → CheckedBroken s (faulty n a) → CheckedBroken s (faulty m b) → Broken n a ≡ Broken m b
  broken_same n a m b j k =
      let e = moved (same_whole j.describes k.describes) j.hb k.hb j.tests k.tests (λ y f. fault y f ≡ some (faulty n a)) j.breaks in
      let z : some (faulty n a) ≡ some (faulty m b) = sym e ∙ k.breaks in
      let w : faulty n a ≡ faulty m b = cc in
      ap₂ Broken (ap (λ f. f.number) w) (ap (λ f. f.names) w)

  list_same : (a b : Said) → CheckedList s l a → CheckedList s l b → a ≡ b
  list_same a b j k =
      moved (same_whole j.describes k.describes) j.hb k.hb j.tests k.tests (λ y f. a ≡ said_of (list_fault (trial y f) l)) j.says ∙ sym k.says

  broken_list : {f : _} {a : Said} → CheckedBroken s f → CheckedList s l a → ⊥
  broken_list {f} j k =
      let e = moved (same_whole j.describes k.describes) j.hb k.hb j.tests k.tests (λ y g. fault y g ≡ some f) j.breaks in
      let u = k.unbroken in
      let z : ◌≡◌ {A = ℕ} 0 1 = cc in
      omega arith

  pub checked_unique : (a b : Reply) → Checked s l a → Checked s l b → a ≡ b
  checked_unique (Refused n p) (Refused m r) j k = let e : refused n p ≡ refused m r = sym j.says ∙ k.says in let a : n ≡ m = cc in let b : p ≡ r = cc in cc
  checked_unique (Refused n p) (Broken m b) j k = absurd (never_both k.describes j.says)
  checked_unique (Refused n p) (Listed b) j k = absurd (never_both k.describes j.says)
  checked_unique (Broken n a) (Refused m r) j k = absurd (never_both j.describes k.says)
  checked_unique (Broken n a) (Broken m b) j k = broken_same n a m b j k
  checked_unique (Broken n a) (Listed b) j k = absurd (broken_list j k)
  checked_unique (Listed a) (Refused m r) j k = absurd (never_both j.describes k.says)
  checked_unique (Listed a) (Broken m b) j k = absurd (broken_list k j)
  checked_unique (Listed a) (Listed b) j k = ap Listed (list_same a b j k)
