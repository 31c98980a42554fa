-- The step that a row makes. Assumes nothing.
--     sync_first           whether it makes one, by first accesses alone
--     row_old, row_new     it adds nothing; it adds a step
use mathlib.Core.Path.{◌≡◌, sym, ap, ◌∙◌}
use mathlib.Core.Bool.{Bool, true, false, cond, ◌&&◌, not}
use mathlib.Core.List.{List}
use Prim.Native.Nat.{ℕ, ◌*◌, ◌%◌, ◌<◌, ◌≤◌}
use native.Mathlib.Omega.{arith}
use lib.ListN.{length, get_or}
use Rattle.basis.specs.Test.{◌and◌}
use Rattle.basis.proofs.BoolLaws.{by_bool, false_of, not_both_ways, true_T, T_true, and_fails, and_true, and_false, and_both, amp_and, and_not_left}
use Rattle.format.specs.declared.Row.{Row}
use Rattle.format.specs.Shape.{no_shape, covers, sc, both_sc}
use Rattle.format.proofs.ShapeLaws.{covers_equal, both_elim}
use Rattle.sets.specs.Mask.{slots, mem}
use Rattle.cells.specs.Cells.{gaining}
use Rattle.tables.specs.Tables.{shape_in, at_in}
use Rattle.own.specs.Lone.{Lone}
use Rattle.own.proofs.LoneLaws.{lone_at}
use Rattle.before.specs.Before.{sync_in, sync_gains}
use Rattle.before.specs.steps.Linked.{Linking}
use Rattle.before.proofs.BeforeLaws.{row_gains, row_keeps}
use Rattle.before.proofs.LinkedLaws.{linking_none, linking_as, step_old}

-- ---- first accesses alone

module _ (t : List ℕ) (alone : Lone t slots) (w r a : ℕ) (hw : w < slots) (hr : r < slots) where
  at_w : (b : Bool) → covers (shape_in t (2 * w)) a ≡ b → at_in t w a ≡ cond b (shape_in t (2 * w)) no_shape
  at_w b h = lone_at t alone w hw a ∙ ap (λ (x : Bool). cond x (shape_in t (2 * w)) no_shape) h

  at_r : (b : Bool) → covers (shape_in t (2 * r)) a ≡ b → at_in t r a ≡ cond b (shape_in t (2 * r)) no_shape
  at_r b h = lone_at t alone r hr a ∙ ap (λ (x : Bool). cond x (shape_in t (2 * r)) no_shape) h

  abbrev first : Bool
  first = both_sc (shape_in t (2 * w)) (shape_in t (2 * r))

  -- equal ranges cover the same
  apart : covers (shape_in t (2 * w)) a ≡ true → covers (shape_in t (2 * r)) a ≡ false → first ≡ false
  apart p q =
      false_of _ (λ h. not_both_ways (T_true _ (covers_equal (shape_in t (2 * w)) (shape_in t (2 * r)) a (both_elim _ _ (true_T _ h)).ranges (true_T _ p))) q)

  sync_at : (first and covers (shape_in t (2 * w)) a) ≡ both_sc (at_in t w a) (at_in t r a)
  unfolding both_sc sc ◌and◌
  sync_at = by_bool (covers (shape_in t (2 * w)) a) (λ p. by_bool (covers (shape_in t (2 * r)) a) (both p) (one p)) none
    where
      both : covers (shape_in t (2 * w)) a ≡ true → covers (shape_in t (2 * r)) a ≡ true → (first and covers (shape_in t (2 * w)) a) ≡ both_sc (at_in t w a) (at_in t r a)
      both p q = ap (λ (b : Bool). first and b) p ∙ and_true first ∙ sym (λ i. both_sc (at_w true p i) (at_r true q i))

      one : covers (shape_in t (2 * w)) a ≡ true → covers (shape_in t (2 * r)) a ≡ false → (first and covers (shape_in t (2 * w)) a) ≡ both_sc (at_in t w a) (at_in t r a)
      one p q = and_fails first _ (apart p q) ∙ sym ((λ i. both_sc (at_w true p i) (at_r false q i)) ∙ and_false (sc (shape_in t (2 * w))))

      none : covers (shape_in t (2 * w)) a ≡ false → (first and covers (shape_in t (2 * w)) a) ≡ both_sc (at_in t w a) (at_in t r a)
      none p = ap (λ (b : Bool). first and b) p ∙ and_false first ∙ sym (ap (λ x. both_sc x (at_in t r a)) (at_w false p))

pub sync_first : (t : List ℕ) → Lone t slots → (r : Row) (p q : Bool) → p ≡ both_sc (shape_in t (2 * (r.writer % slots))) (shape_in t (2 * (r.reader % slots)))
    → q ≡ covers (shape_in t (2 * (r.writer % slots))) r.address → (p && q) ≡ sync_in t r
unfolding sync_in
sync_first t alone r p q is-p is-q =
    amp_and p q ∙ (λ i. is-p i and is-q i) ∙ sync_at t alone (r.writer % slots) (r.reader % slots) r.address (omega arith) (omega arith)

-- ---- what it adds

module _ (n : ℕ) (few : n ≤ slots) (succ cols : List ℕ) (size : length succ ≡ slots) (width : length cols ≡ slots) (t : List ℕ) (r : Row) (s h : Bool) (is_s : s ≡ sync_in t r)
    (is-h : h ≡ mem (get_or succ (r.writer % slots) 0) (r.reader % slots)) where
  pub row_old : (s && not h) ≡ false → Linking n (sync_gains t r) succ cols succ cols
  row_old q =
      by_bool s
      (λ p. linking_as (λ (l : List ℕ). gaining l (r.writer % slots) (r.reader % slots)) (sync_gains t r) (λ l. sym (row_gains t r l (sym is_s ∙ p)))
      (step_old n few succ cols size width (r.writer % slots) (r.reader % slots) (omega arith) (sym is-h ∙ and_not_left s h q p)))
      (λ p. linking_none (sync_gains t r) size width (λ l. sym (row_keeps t r l (sym is_s ∙ p))))

  pub row_new : (s && not h) ≡ true → {succ' cols' : List ℕ} → Linking n (λ (l : List ℕ). gaining l (r.writer % slots) (r.reader % slots)) succ cols succ' cols'
      → Linking n (sync_gains t r) succ cols succ' cols'
  row_new q a =
      linking_as (λ (l : List ℕ). gaining l (r.writer % slots) (r.reader % slots)) (sync_gains t r)
      (λ l. sym (row_gains t r l (sym is_s ∙ (and_both s (not h) (sym (amp_and s (not h)) ∙ q)).0))) a
