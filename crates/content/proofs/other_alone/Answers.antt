-- `content::other_alone` meets its contract, test by test. Assumes nothing.
use mathlib.Core.Path.{◌≡◌, ap, ◌∙◌}
use mathlib.Core.Bool.{Bool}
use lib.Dec.{eqb}
use Rattle.basis.specs.Test.{◌and◌, ◌or◌}
use Rattle.basis.proofs.BoolLaws.{and_swap, and_assoc}
use Rattle.content.specs.Content.{within, inside, kind_fits, other_formed}
use Rattle.content.proofs.other_alone.Goals as goal

-- the agent's test stands before the kind's in the contract
turned : (i m k w : Bool) → (i and ((m and k) and w)) ≡ (i and (m and (w and k)))
turned i m k w = ap (λ (b : Bool). i and b) (and_assoc m k w ∙ ap (λ (b : Bool). m and b) (and_swap k w))

pub returns : goal.returns
unfolding other_formed ◌and◌
returns c =
    let a = c.args in
    simp (c.inside.ensures, c.listed.ensures, c.within.ensures)
    (turned (inside a.h.size a.a) (eqb a.a.mode 1 or eqb a.a.mode 2) (kind_fits a.a) (within 1 a.h.agents a.agent))
