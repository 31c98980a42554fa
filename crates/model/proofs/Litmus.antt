-- The law that makes each entry of the litmus tables a `Judged`. Assumes nothing.
--     entry_judged, litmus_judged, more_judged     what the statements of proofs/AllEntries.antt say of each entry
use mathlib.Core.Path.{◌≡◌, sym, subst}
use mathlib.Core.List.{List, ◌++◌, Memᴰ, head-eq_of_cons-eq, tail-eq_of_cons-eq}
use Prim.Native.Nat.{ℕ}
use lib.ListN.{length, drop}
use Rattle.basis.specs.Test.{each}
use Rattle.marks.specs.Table.{cleared}
use Rattle.parse.proofs.PromiseLaws.{promise}
use Rattle.answer.specs.declared.Answer.{Answer}
use Rattle.model.specs.Judged.{Judged}
use Rattle.model.specs.Litmus.{Entry, proved}
use Rattle.model.specs.Further.{further}
use Rattle.model.specs.Demands.{EntryRight, LitmusRight}
use Rattle.model.proofs.Outcome.{Outcome, outcome}
use Rattle.model.proofs.AllEntries.{told, comes, stated, litmus, litmus_more}
use Rattle.model.proofs.Sound.{sound}
use Rattle.model.proofs.OutcomeLaws.{Says, outcome_judged}

pub entry_judged : (e : Entry) → comes e ≡ stated e → EntryRight e
unfolding told
entry_judged e t scratch order p q =
    let j = outcome_judged (λ s x d. sound x (promise s x d)) e.sheet scratch order in
    let o : Outcome = outcome e.sheet e.room e.places in
    let k : Says e.sheet scratch order o =
    subst (λ (n : ℕ). Says e.sheet scratch order (outcome e.sheet e.room n)) q
    (subst (λ (n : ℕ). Says e.sheet scratch order (outcome e.sheet n (length order))) p j) in (
      cleared o.used scratch,
      subst (λ (w : Answer × List ℕ). Judged e.sheet scratch order w.0 (cleared o.used scratch) (w.1 ++ drop (length w.1) order)) t k,
    )

each_right : (e : Entry) (l : List Entry) → each comes l ≡ each stated l → Memᴰ e l → EntryRight e
unfolding each
each_right e l t (Memᴰ.head {x = f} q) = subst EntryRight (sym q) (entry_judged f (head-eq_of_cons-eq t))
each_right e l t (Memᴰ.tail {xs = k} m) = each_right e k (tail-eq_of_cons-eq t) m

pub litmus_judged : LitmusRight proved
litmus_judged e = each_right e proved litmus

pub more_judged : LitmusRight further
more_judged e = each_right e further litmus_more
