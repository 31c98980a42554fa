-- The laws of the last step: the search's problem is the model's, so what it finds is the first of all orders that meet the rules.
-- Assumes nothing.
--     Unbroken s k n m ..     the tables hold what the sheet describes, and none of 21 to 25 is broken
--     arranged_judged         what the last step answers is what is to be answered
use mathlib.Core.Path.{◌≡◌, refl, sym, ap, ◌∙◌, subst}
use mathlib.Core.Logic.{inr}
use mathlib.Core.Bool.{Bool, true, false}
use mathlib.Core.List.{List}
use mathlib.Core.Option.{none}
use Prim.Native.Nat.{ℕ, ◌-◌, ◌≤◌, min}
use native.Mathlib.Omega.{arith}
use lib.ListN.{length, take}
use Rattle.format.specs.Execution.{Execution, inits, others}
use Rattle.parse.specs.Parse.{whole}
use Rattle.parse.proofs.PromiseLaws.{promise}
use Rattle.sets.specs.Mask.{slots}
use Rattle.marks.specs.Table.{bytes_for, cleared}
use Rattle.orders.specs.Problem.{Problem}
use Rattle.orders.specs.Order.{Meets}
use Rattle.orders.specs.First.{FirstOf}
use Rattle.orders.specs.Tables.{tabled}
use Rattle.orders.specs.Answer.{Fits, Answered}
use Rattle.orders.specs.Answer as orders
use Rattle.orders.proofs.OrderLaws.{meets_same, first_same}
use Rattle.orders.proofs.AnswerLaws.{ordered_first, ordered_none}
use Rattle.answer.specs.declared.Names.TheVariants.{Nobody}
use Rattle.answer.specs.declared.Answer.{Answer}
use Rattle.model.specs.Order.{problem}
use Rattle.model.specs.Rules.{faulty, fault}
use Rattle.model.specs.Judged.{needed, admitted, JudgedBroken, JudgedConsistent, Judged}
use Rattle.model.proofs.Sound.{Sound, sound}
use Rattle.model.proofs.OrderLaws.{inits_others}
use Rattle.model.proofs.JudgedLaws.{Admitted, admitted_whole}
use Rattle.settle.specs.Settle.{settled_in}
use Rattle.arrange.specs.Arranged.{bars_of, said_of, Arranged}
use Rattle.front.specs.Tabled.{hb_of, Held}
use Rattle.front.proofs.SheetLaws.{held_settled}
use Rattle.front.proofs.ProblemLaws.{held_before, held_problem, held_begins}

-- the execution that the sheet describes, of which the first k events are inits; the tables hold it, with its happens-before; none of 21 to 25 is
-- broken, so that 01's "26: no total order as below exists" is next
pub record Unbroken (s : List ℕ) (k n m : ℕ) (t q succ pred scratch order : List ℕ) : Type 0 where
  pub execution : Execution
  pub describes : admitted s (length scratch) (length order) ≡ whole execution
  pub starts : k ≡ inits execution.events
  pub held : Held execution n m t q succ pred
  pub kept : fault execution (hb_of succ) ≡ none

module _ {s : List ℕ} {k n m : ℕ} {t q succ pred scratch order : List ℕ} (u : Unbroken s k n m t q succ pred scratch order) where
  abbrev X : Execution
  X = u.execution

  ad : Admitted s (length scratch) (length order) X
  ad = admitted_whole s (length scratch) (length order) X u.describes

  so : Sound X
  so = sound X (promise s X ad.describes)

  events : length X.events ≡ n
  events = u.held.tabled.count

  few : n ≤ slots
  few = u.held.tabled.few

  abbrev P : Problem
  P = tabled n pred (bars_of t n succ pred q m)

  abbrev Q : Problem
  Q = problem X (hb_of succ)

  room : n - k ≡ others X.events
  room = let e = inits_others X in let i = u.starts in let l = events in omega arith

  fits : Fits k n (length scratch)
  fits = record { inits = let e = inits_others X in let i = u.starts in let l = events in omega arith; events = few; scratch = rw room ad.scratch }

  module _ {r : Bool} {scratch' order' : List ℕ} (a : Answered k n pred (bars_of t n succ pred q m) scratch order r scratch' order') where
    abbrev o : orders.Ordered P k scratch order r scratch' order'
    o = a.fit fits (rw events at ad.order)

    cleaned : scratch' ≡ cleared (needed X) scratch
    cleaned = o.clean ∙ ap (λ (i : ℕ). cleared (bytes_for i) scratch) room

    no_order : r ≡ false → JudgedBroken s scratch order (faulty 26 Nobody) scratch' order'
    no_order z =
        record {
          execution = X;
          describes = u.describes;
          hb = hb_of succ;
          tests = u.held.tests;
          breaks = inr (record { names = refl; unbroken = u.kept; no_order = λ l w. ordered_none (held_begins u.held so u.starts) o z l ((meets_same P Q events (held_before u.held so) (held_problem u.held so) l).1 w) });
          scratch_cleared = cleaned;
          order_kept = o.kept z;
        }

    an_order : r ≡ true → JudgedConsistent s scratch order (settled_in t succ (min n slots)) scratch' order'
    an_order z =
        let w = ordered_first (held_begins u.held so u.starts) o z in
        record {
          execution = X;
          describes = u.describes;
          hb = hb_of succ;
          tests = u.held.tests;
          unbroken = u.kept;
          first = subst (λ (i : ℕ). FirstOf (Meets Q) (take i order')) (sym events) (first_same P Q events (held_before u.held so) (held_problem u.held so) (take n order') w.0);
          pair = held_settled u.held;
          scratch_cleared = cleaned;
          order_rest = rw events w.1;
        }

  pub arranged_judged : {r : Answer} {scratch' order' : List ℕ} → Arranged k n m t q succ pred scratch order r scratch' order'
      → Judged s scratch order r scratch' order'
  arranged_judged {r} {scratch'} {order'} a = subst (λ (z : Answer). Judged s scratch order z scratch' order') (sym a.says) (go a.found refl)
    where
      go : (b : Bool) → a.found ≡ b → Judged s scratch order (said_of a.found (settled_in t succ (min n slots))) scratch' order'
      go true e = rw e (an_order a.searched e)
      go false e = rw e (no_order a.searched e)
