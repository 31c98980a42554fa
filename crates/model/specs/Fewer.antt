-- More synchronisation never excuses (02 §12), over executions that differ in their pairs alone. Proved in proofs/Fewer.antt.
--     with_pairs x ps     x with other pairs                  MorePairs     the claim, for two sheets that describe such executions
-- Assumes nothing.
use Rattle.std.specs.Prelude.{◌≡◌, Bool, ℕ, length, take}
use mathlib.Core.List.{List, Memᴰ}
use Rattle.format.specs.declared.Pair.{Pair}
use Rattle.format.specs.Execution.{Execution}
use Rattle.parse.specs.WellSheet.{WellSheet}
use Rattle.orders.specs.Order.{Meets}
use Rattle.answer.specs.declared.Settled.{Settled}
use Rattle.answer.specs.declared.Settled.TheVariants.{Orderly as AllSettled}
use Rattle.answer.specs.declared.Answer.{Answer}
use Rattle.answer.specs.declared.Answer.TheVariants.{Consistent}
use Rattle.model.specs.Happens.{Tests}
use Rattle.model.specs.Order.{problem}
use Rattle.model.specs.Judged.{Judged}
use Rattle.model.specs.Demands.{IsConsistent}

abbrev pub with_pairs : Execution → List Pair → Execution
with_pairs x ps = record { head = x.head; events = x.events; rows = x.rows; pairs = ps }

-- 02 §12: "if a sheet is consistent, the same sheet with any pair fields removed is consistent too, and the order reported for the fuller sheet
-- still meets its rules. And if the smaller sheet is orderly and the fuller one consistent, the fuller one is orderly."
pub record Unexcused (smaller : Execution) (t : Settled) (order' : List ℕ) (answer : Answer) : Type 0 where
  pub consistent : IsConsistent answer
  pub meets : (hb : ℕ → ℕ → Bool) → Tests smaller hb → Meets (problem smaller hb) (take (length smaller.events) order')
  pub orderly : answer ≡ Consistent AllSettled → t ≡ AllSettled

abbrev pub MorePairs : Type 0
MorePairs = (s s' : List ℕ) (x : Execution) (ps : List Pair) → WellSheet s x → WellSheet s' (with_pairs x ps)
    → ((p : Pair) → Memᴰ p ps → Memᴰ p x.pairs) → (scratch order : List ℕ) (t : Settled) (u v : List ℕ) (answer : Answer) (u' v' : List ℕ)
    → Judged s scratch order (Consistent t) u v → Judged s' scratch order answer u' v' → Unexcused (with_pairs x ps) t v answer
