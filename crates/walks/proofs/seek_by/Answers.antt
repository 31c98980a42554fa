-- `walks::seek_by` meets its contract: by the search, where all fits. Assumes nothing.
use mathlib.Core.Path.{refl}
use native.Mathlib.Omega.{arith}
use Rattle.orders.proofs.AnswerLaws.{sought_none, sought_some}
use Rattle.walks.proofs.seek_by.Goals as goal

pub returns-then-not-fits : goal.returns-then-not-fits
returns-then-not-fits g c = sought_none (c.fits.ensures.fails c.if-not-fits.true)

pub search-requires : goal.search-requires
search-requires g c = (c.fits.ensures.holds c.if-not-fits.false, omega arith)

pub returns : goal.returns
returns g c = sought_some _ (c.fits.ensures.holds c.if-not-fits.false) refl c.search.ensures c.search.auto.path
