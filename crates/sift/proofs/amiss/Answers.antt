-- `sift::amiss` meets its contract: each part marks its own. Assumes nothing.
use Rattle.sift.proofs.CleanLaws.{marks_or, marks_number, marks_bare, marks_below}
use Rattle.sift.proofs.amiss.Goals as goal

pub returns : goal.returns
returns c =
    marks_or _ _ (marks_number _ _ c.stirs-stirred.ensures) (marks_or _ _ (marks_below _ _ _ c.only-beyond.ensures) (marks_or _ _ (marks_bare _ _ _ c.only-bare.ensures c.covered.ensures) (marks_or _ _ (marks_below _ _ _ c.only-falls.ensures) c.others.ensures)))
