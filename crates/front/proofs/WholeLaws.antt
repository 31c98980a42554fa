-- The first broken rule over the tables is the model's. Assumes nothing.
--     ruled     found_of (rule_in ..) is the model's fault
use mathlib.Core.Path.{◌≡◌, refl, ap, ◌∙◌}
use mathlib.Core.List.{List}
use mathlib.Core.Option.{Option}
use Prim.Native.Nat.{ℕ}
use Rattle.basis.specs.Test.{◌else◌}
use Rattle.format.specs.Execution.{Execution}
use Rattle.model.specs.Rules.{Fault, fault21, fault22, fault23, fault24, fault25, fault}
use Rattle.model.proofs.Sound.{Sound}
use Rattle.std.specs.Prelude.{Ok, Err}
use Rattle.answer.specs.Rules.{Rule, ◌also◌}
use Rattle.torn.specs.Torn.{rule25_in}
use Rattle.rules.specs.Rules.{rule21_in, rule22_in, rule23_in, rule24_in, rest_in, rule_in}
use Rattle.front.specs.Tabled.{Tabled, Rowed, Seen, hb_of, Turned, found_of}
use Rattle.front.proofs.RuledLaws.{ruled21, ruled22, ruled23, ruled24}
use Rattle.front.proofs.TornLaws.{ruled25}

found_also : (a b : Rule) → found_of (a also b) ≡ (found_of a else found_of b)
unfolding ◌also◌ ◌else◌
found_also (Ok u) b = refl
found_also (Err e) b = refl

-- one rule after another
then_by : (a b : Rule) (f g : Option Fault) → found_of a ≡ f → found_of b ≡ g → found_of (a also b) ≡ (f else g)
then_by a b f g p q = found_also a b ∙ ap (λ (o : Option Fault). o else found_of b) p ∙ ap (λ (o : Option Fault). f else o) q

module _ (x : Execution) (t : List ℕ) (n : ℕ) (tb : Tabled x t n) (q : List ℕ) (m : ℕ) (rowed : Rowed x q m) (seen : Seen x q m)
    (succ pred : List ℕ) (turned : Turned succ pred) (so : Sound x) where
  pub ruled : found_of (rule_in t n succ pred q m) ≡ fault x (hb_of succ)
  unfolding rule_in rest_in fault
  ruled =
      then_by (rule21_in q m) _ (fault21 x) _ (ruled21 x q m rowed seen)
      (then_by (rule22_in succ n) _ (fault22 x (hb_of succ)) _ (ruled22 x n tb.count succ)
      (then_by (rule23_in q m succ) _ (fault23 x (hb_of succ)) _ (ruled23 x q m rowed succ)
      (then_by (rule24_in t q m succ pred) (rule25_in t n q m) (fault24 x (hb_of succ)) (fault25 x)
      (ruled24 x t n tb q m rowed succ pred turned) (ruled25 x t n tb q m rowed so))))
