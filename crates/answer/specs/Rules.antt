-- What a rule finds, and one rule after another. Laws: proofs/RulesLaws.antt.
--     Rule, unbreached, breach k x     what a rule finds; nothing; number k is broken, with the names x
--     named r n rule     the rule's finding, where its search came to r below n; nothing where it came to the end
--     a also b           what a finds, or else what b finds
-- Assumes nothing.
use Rattle.std.specs.Prelude.{cond, ℕ, ltb, Result, Ok, Err, ⊤}
use Rattle.answer.specs.declared.Breach.{Breach}
use Rattle.answer.specs.declared.Names.{Names}

abbrev pub Rule : Type 0
Rule = Result ⊤ Breach

abbrev pub unbreached : Rule
unbreached = Ok tt

abbrev pub breach : ℕ → Names → Rule
breach k x = Err (record { number = k; names = x })

abbrev pub named : ℕ → ℕ → Rule → Rule
named r n rule = cond (ltb r n) rule unbreached

-- each is tested over the whole sheet before the next
infixr 25 ◌also◌
unfoldable pub ◌also◌ : Rule → Rule → Rule
◌also◌ (Ok u) b = b
◌also◌ (Err e) b = Err e
