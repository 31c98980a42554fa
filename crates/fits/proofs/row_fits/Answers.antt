-- `fits::row_fits` meets its contract, test by test. Assumes nothing.
use Rattle.basis.specs.Test.{◌and◌, non}
use Rattle.content.specs.Content.{row_fits, joins}
use Rattle.fits.proofs.ByNumberLaws.{reads_no, writes_no}
use Rattle.fits.proofs.row_fits.Goals as goal

pub returns : goal.returns
unfolding row_fits joins ◌and◌ non
returns c = simp (reads_no c.args.s.now c.args.x c.args.at.now c.args.r.reader c.args.r.address, writes_no c.args.s.now c.args.x c.args.at.now c.args.r.writer c.args.r.address, c.covers.ensures, c.reads.ensures, c.covers-2.ensures, c.writes.ensures, c.shape_no-a.ensures, c.shape_no-b.ensures, c.row_rises.ensures)
