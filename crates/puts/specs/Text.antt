-- The bytes of a text (01, the report line's "fixed words").
--     text t    the codes of t's characters, in their order: for the report line's words, ASCII
-- Assumes nothing.
use Rattle.std.specs.Prelude.{ℕ, List, [], ◌∷◌}
use Prim.Native.Char.{code}
use Prim.Native.String.{String, [] as ended, ◌∷◌ as ◌then◌}

abbrev pub text : String → List ℕ
text ended = []
text (c then t) = code c ∷ text t
