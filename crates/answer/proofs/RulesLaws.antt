-- The laws of specs/Rules.antt, as the code's returns use them. Assumes nothing.
--     named_yes, named_no       a search that came to a number below n; one that did not
--     also_here, also_later     the first rule finds something; it finds nothing
use mathlib.Core.Path.{◌≡◌, sym, ap, ◌∙◌}
use mathlib.Core.Bool.{Bool, cond}
use Prim.Native.Nat.{ℕ, ◌<◌, ◌≤◌}
use borrow.Author.Tests.{lt-ltb, le-ltb}
use Rattle.std.specs.Prelude.{Err}
use Rattle.answer.specs.declared.Breach.{Breach}
use Rattle.answer.specs.Rules.{Rule, unbreached, named, ◌also◌}

pub named_yes : (r n : ℕ) (x : Rule) → r < n → x ≡ named r n x
named_yes r n x h = sym (ap (λ (b : Bool). cond b x unbreached) (lt-ltb r n h))

pub named_no : (r n : ℕ) (x : Rule) → n ≤ r → unbreached ≡ named r n x
named_no r n x h = sym (ap (λ (b : Bool). cond b x unbreached) (le-ltb r n h))

pub also_here : {a : Rule} (b : Rule) {e : Breach} → Err e ≡ a → Err e ≡ (a also b)
unfolding ◌also◌
also_here {a} b e = ap (λ (y : Rule). y also b) e

pub also_later : {a b y : Rule} → unbreached ≡ a → y ≡ b → y ≡ (a also b)
unfolding ◌also◌
also_later {a} {b} e f = f ∙ ap (λ (x : Rule). x also b) e
