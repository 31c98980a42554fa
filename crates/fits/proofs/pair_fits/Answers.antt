-- `fits::pair_fits` meets its contract, test by test. Assumes nothing.
use Rattle.basis.specs.Test.{◌and◌, non}
use Rattle.content.specs.Content.{pair_fits, parts}
use Rattle.fits.proofs.ByNumberLaws.{marks_no, agent_no_lem}
use Rattle.fits.proofs.pair_fits.Goals as goal

pub returns : goal.returns
unfolding pair_fits parts ◌and◌ non
returns c = simp (marks_no c.args.s.now c.args.x c.args.at.now c.args.p.first, marks_no c.args.s.now c.args.x c.args.at.now c.args.p.second, agent_no_lem c.args.s.now c.args.x c.args.at.now c.args.p.first, agent_no_lem c.args.s.now c.args.x c.args.at.now c.args.p.second, c.marks-first.ensures, c.marks-second.ensures, c.shape_no.ensures, c.shape_no-2.ensures, c.agent_no.ensures, c.agent_no-2.ensures, c.pair_rises.ensures)
