-- The laws of specs/Prepared.antt. Assumes nothing.
--     ruled_bytes, ruled_found, ruled_rest     how the code's answers are made: by 21, by happens-before, and by the rules one after another
--     readied_bytes, -clean, -rest, -broken     the same with the list: by 21, where one pass found nothing, by the rules one after another
--     readied_listed                   a count is that of a list of what the rows bar
--     ruled_unique                 two conforming results are equal: happens-before and the rule, and the masks where none is broken
use mathlib.Core.Path.{◌≡◌, refl, sym, ap, ◌∙◌, subst}
use mathlib.Core.Bool.{Bool, true, false, cond, false≢true}
use mathlib.Core.List.{List}
use Prim.Native.Nat.{ℕ, ◌<◌, min}
use native.Mathlib.Omega.{arith}
use lib.ListN.{replicate}
use Rattle.entries.specs.declared.Counts.{Counts}
use Rattle.sets.specs.Mask.{slots}
use Rattle.std.specs.Prelude.{Option, Some, None, is_some, Result, Ok, Err}
use Rattle.answer.specs.declared.Breach.{Breach}
use Rattle.answer.specs.Rules.{Rule, unbreached}
use Rattle.answer.proofs.RulesLaws.{also_here, also_later}
use Rattle.tables.specs.Tables.{row_room, pair_room, pair_cells}
use Rattle.lay.specs.Lay.{pairs_put}
use Rattle.before.specs.Before.{ClosedSteps}
use Rattle.before.proofs.BeforeLaws.{closed_steps_unique}
use Rattle.before.proofs.ExistsLaws.{steps_exist}
use Rattle.rules.specs.Rules.{rule21_in, rest_in, rule_in}
use Rattle.alike.specs.Ranges.{equals_in}
use Rattle.bars.specs.Listed.{Listed}
use Rattle.sift.specs.Sieve.{Sieve}
use Rattle.prepare.specs.Prepared.{Ruled, Readied}

module _ (s : List ℕ) (x : Counts) (t q succ pred : List ℕ) where
  abbrev table : List ℕ
  table = pairs_put s x (min x.pairs pair_room) (replicate pair_cells 0)

  -- 21 is broken, whatever happens before what
  pub ruled_bytes : {e : Breach} {rule : Rule} → rule ≡ rule21_in q (min x.rows row_room) → rule ≡ Err e → {succ' pred' : List ℕ}
      → Ruled s x t q succ succ' pred pred' (Err e)
  unfolding rule_in
  ruled_bytes e h =
      let m = steps_exist t (min x.events slots) q (min x.rows row_room) table (min x.pairs pair_room) succ pred in
      record { p = table; pairs = refl; after = m.0; before = m.1; ordered = m.2; says = also_here _ (sym h ∙ e); left = λ k. absurd (cc) }

  pub ruled_found : {p : List ℕ} → p ≡ table → {succ' pred' : List ℕ}
      → ClosedSteps t (min x.events slots) q (min x.rows row_room) p (min x.pairs pair_room) succ succ' pred pred' → {r : Rule}
      → r ≡ rule_in t (min x.events slots) succ' pred' q (min x.rows row_room) → Ruled s x t q succ succ' pred pred' r
  ruled_found {p} e {succ'} {pred'} o h = record { p = p; pairs = e; after = succ'; before = pred'; ordered = o; says = h; left = λ k. (refl, refl) }

  -- 21 is kept, and then the other rules are asked
  pub ruled_rest : {p : List ℕ} → p ≡ table → {succ' pred' : List ℕ}
      → ClosedSteps t (min x.events slots) q (min x.rows row_room) p (min x.pairs pair_room) succ succ' pred pred'
      → {rule : Rule} → rule ≡ rule21_in q (min x.rows row_room) → rule ≡ unbreached
      → {r : Rule} → r ≡ rest_in t (min x.events slots) succ' pred' q (min x.rows row_room) → Ruled s x t q succ succ' pred pred' r
  unfolding rule_in
  ruled_rest e o kept is h = ruled_found e o (also_later (sym is ∙ kept) h)

  pub readied_bytes : {e : Breach} {rule : Rule} → rule ≡ rule21_in q (min x.rows row_room) → rule ≡ Err e
      → {succ' pred' between readers writers : List ℕ} → Readied s x t q succ succ' pred pred' (Err e) between readers writers
  readied_bytes e h = record { ruled = ruled_bytes e h; listed = λ o k. absurd (cc) }

  module _ {p : List ℕ} (e : p ≡ table) {succ' pred' : List ℕ}
      (o : ClosedSteps t (min x.events slots) q (min x.rows row_room) p (min x.pairs pair_room) succ succ' pred pred')
      {rule : Rule} (kept : rule ≡ rule21_in q (min x.rows row_room)) (is : rule ≡ unbreached) {between readers writers : List ℕ} where
    module _ {listed : Option ℕ} (found : Sieve t (min x.events slots) succ' pred' q x.inits (min x.rows row_room) listed between readers writers) where
      pub readied_clean : (count : ℕ) → listed ≡ Some count → Readied s x t q succ succ' pred pred' (Ok (Some count)) between readers writers
      unfolding rule_in
      readied_clean count h =
          record {
            ruled = ruled_found e o (also_later (sym is ∙ kept) (sym (found.kept (ap is_some h))));
            listed = λ i k. let z : listed ≡ i = cc in subst (λ (r : Option ℕ). Sieve t (min x.events slots) succ' pred' q x.inits (min x.rows row_room) r between readers writers) z found;
          }

      pub readied_rest : listed ≡ None → {r : Rule} → r ≡ rest_in t (min x.events slots) succ' pred' q (min x.rows row_room) → r ≡ unbreached
          → Readied s x t q succ succ' pred pred' (Ok None) between readers writers
      readied_rest n h k =
          record {
            ruled = ruled_rest e o kept is (sym k ∙ h);
            listed = λ i j. let z : listed ≡ i = cc in subst (λ (r : Option ℕ). Sieve t (min x.events slots) succ' pred' q x.inits (min x.rows row_room) r between readers writers) z found;
          }

    pub readied_broken : {r : Rule} → r ≡ rest_in t (min x.events slots) succ' pred' q (min x.rows row_room) → {b : Breach} → r ≡ Err b
        → Readied s x t q succ succ' pred pred' (Err b) between readers writers
    readied_broken h k = record { ruled = ruled_rest e o kept is (sym k ∙ h); listed = λ i j. absurd (cc) }

-- a list is that of the pass
pub readied_listed : {s : List ℕ} {x : Counts} {t q succ succ' pred pred' : List ℕ} {r : Result (Option ℕ) Breach} {between readers writers : List ℕ}
    → Readied s x t q succ succ' pred pred' r between readers writers → {listed : Option ℕ} → r ≡ Ok listed → (count : ℕ) → listed ≡ Some count
    → Listed t (equals_in t (min x.events slots)) succ' pred' q x.inits (min x.rows row_room) count between readers writers
readied_listed w {listed} k count h = (w.listed listed k).listed count h

pub record Same {s : List ℕ} {x : Counts} {t q succ succ' pred pred' next prior : List ℕ} {r a : Rule} (w : Ruled s x t q succ succ' pred pred' r)
    (z : Ruled s x t q succ next pred prior a) : Type 0 where
  pub after : z.after ≡ w.after
  pub before : z.before ≡ w.before
  pub rule : r ≡ a
  pub masks : r ≡ unbreached → (succ' ≡ next) × (pred' ≡ prior)

module _ {s : List ℕ} {x : Counts} {t q succ succ' pred pred' next prior : List ℕ} {r a : Rule} (w : Ruled s x t q succ succ' pred pred' r)
    (z : Ruled s x t q succ next pred prior a) where
  p_same : z.p ≡ w.p
  p_same = z.pairs ∙ sym w.pairs

  steps_same : (z.after ≡ w.after) × (z.before ≡ w.before)
  steps_same =
      closed_steps_unique t (min x.events slots) q (min x.rows row_room) w.p (min x.pairs pair_room) succ pred z.after z.before w.after w.before
      (rw p_same at z.ordered) w.ordered

  rule_same : r ≡ a
  rule_same = w.says ∙ sym (rw (steps_same.0, steps_same.1) at z.says)

  pub ruled_unique : Same w z
  ruled_unique =
      record {
        after = steps_same.0;
        before = steps_same.1;
        rule = rule_same;
        masks = λ k. let m = w.left k in let n = z.left (sym rule_same ∙ k) in (m.0 ∙ sym steps_same.0 ∙ sym n.0, m.1 ∙ sym steps_same.1 ∙ sym n.1);
      }
