-- Tables of masks, of any length. What lies beyond the end is neither there nor written. Laws: proofs/CellsLaws.antt. Assumes nothing.
--     gaining l i e         l, of which the mask at i has gained e
--     spread l m w e        l, of which the mask at v * slots + w has gained e, for each v of the set m
--     scatter l m e         l, of which the mask at each member of the set m has gained e
--     placing f n l         l, of which place e holds f e, for each e below n
use Rattle.std.specs.Prelude.{List, ℕ, ◌+◌, ◌*◌, get_or, set}
use Rattle.sets.specs.Mask.{slots, insert}
use Rattle.cells.specs.Walk.{up_to, over}

unfoldable pub gaining : List ℕ → ℕ → ℕ → List ℕ
gaining l i e = set l i (insert (get_or l i 0) e)

abbrev pub gain_at : ℕ → ℕ → ℕ → List ℕ → List ℕ
gain_at w e v l = gaining l (v * slots + w) e

unfoldable pub spread : List ℕ → ℕ → ℕ → ℕ → List ℕ
spread l m w e = over m (gain_at w e) l

abbrev pub gain_one : ℕ → ℕ → List ℕ → List ℕ
gain_one e v l = gaining l v e

unfoldable pub scatter : List ℕ → ℕ → ℕ → List ℕ
scatter l m e = over m (gain_one e) l

abbrev pub put_at : (ℕ → ℕ) → ℕ → List ℕ → List ℕ
put_at f e l = set l e (f e)

unfoldable pub placing : (ℕ → ℕ) → ℕ → List ℕ → List ℕ
placing f n l = up_to (put_at f) n l
