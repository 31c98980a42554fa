-- `sift::reasons` meets its contract. Assumes nothing.
use mathlib.Core.Path.{◌∙◌}
use mathlib.Core.Bool.{cond, ◌&&◌}
use lib.Bits.{bit_or}
use Rattle.sift.proofs.AlikesLaws.{reasons_bare}
use Rattle.sift.proofs.reasons.Goals as goal

pub returns : goal.returns
returns c =
    λ p s.
    let a = c.args in
    (λ i. bit_or ((c.only-x.ensures ∙ (λ j. cond (c.sc.ensures j && c.equal.ensures j) a.as_a 0)) i) (c.only.ensures i)) ∙ reasons_bare a.a a.b a.as_a a.as_b a.wr a.before a.after p s
