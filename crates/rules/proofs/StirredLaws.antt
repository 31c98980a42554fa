-- The laws of specs/steps/Stirred.antt, and what 21 and 25 find. Assumes nothing.
--     differ_marks                 two bytes that differ
--     rule21_kept                  what 21 finds where nothing was noticed
--     by_sources                   25, by the masks that were filled
use mathlib.Core.Path.{◌≡◌, refl, ap, ◌∙◌}
use mathlib.Core.Bool.{true}
use mathlib.Core.List.{List}
use Prim.Native.Nat.{ℕ, ◌+◌, ◌*◌, ◌%◌, ◌≤◌, ◌<◌}
use native.Mathlib.Omega.{arith}
use lib.Bits.{bit_and, bit_xor, xor_add_and, xor_self, and_le_l, and_le_r}
use lib.ListN.{replicate}
use Rattle.basis.proofs.BoolLaws.{false_of, not_both_ways}
use Rattle.answer.specs.Rules.{unbreached}
use Rattle.std.specs.Prelude.{None}
use Rattle.cells.proofs.FirstLaws.{some_none}
use Rattle.tables.specs.Tables.{accesses, row_room, seen_in, wrote_in}
use Rattle.torn.specs.Torn.{sources_in, named_in, rule25_in}
use Rattle.torn.specs.steps.Noticed.{Marks}
use Rattle.rules.specs.Rules.{unlike_in, rule21_in}
use Rattle.rules.specs.steps.Stirred.{Unlike}
use Rattle.rules.proofs.RulesLaws.{unlike_yes, unlike_no, rule21_no}

-- ---- 21

xor_nothing : (a b : ℕ) → bit_xor a b ≡ 0 → a ≡ b
xor_nothing a b e = go (bit_xor a b) (bit_and a b) e (xor_add_and a b) (and_le_l a b) (and_le_r a b)
  where
    go : (x n : ℕ) → x ≡ 0 → x + n * 2 ≡ a + b → n ≤ a → n ≤ b → a ≡ b
    go x n p q r s = omega arith

pub differ_marks : (q : List ℕ) (j a b : ℕ) → j < row_room → a ≡ seen_in q (j % row_room) → b ≡ wrote_in q (j % row_room) → Marks (bit_xor a b) (unlike_in q j ≡ true)
differ_marks q j a b h p r =
    record {
      none = λ e y. not_both_ways y (unlike_no q j a b h p r (xor_nothing a b e));
      some = λ f. unlike_yes q j a b h p r (λ e. f (ap (λ (x : ℕ). bit_xor x b) e ∙ xor_self b));
    }

module _ (q : List ℕ) (n : ℕ) where
  pub rule21_kept : (Unlike q n → ⊥) → unbreached ≡ rule21_in q n
  rule21_kept never = rule21_no n None refl q (some_none (unlike_in q) n (λ j h. false_of _ (λ y. never (record { at = j; inside = h; holds = y }))))

-- ---- 25

pub by_sources : (t : List ℕ) (n : ℕ) (q : List ℕ) (rows : ℕ) (masks : List ℕ) → masks ≡ sources_in t q rows (replicate accesses 0) → named_in masks n ≡ rule25_in t n q rows
unfolding rule25_in
by_sources t n q rows masks is = ap (λ (m : List ℕ). named_in m n) is
