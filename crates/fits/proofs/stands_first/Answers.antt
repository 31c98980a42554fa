-- `fits::stands_first` meets its contract: an init may stand behind events of which none blocks it. Assumes nothing.
use mathlib.Core.Path.{sym, ap, ◌∙◌}
use Rattle.basis.specs.Test.{non}
use Rattle.entries.specs.Entries.{events_in}
use Rattle.fits.proofs.ByNumberLaws.{stands_free}
use Rattle.fits.proofs.stands_first.Goals as goal

pub returns : goal.returns
unfolding non
returns c = let a = c.args in ap non c.blocked.ensures ∙ sym (stands_free (events_in a.s.now a.x a.at.now) a.a)
