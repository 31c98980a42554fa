-- An event: its agent and its accesses (01, "The sheet"). Today an event has one access; every test asks for the access of an event at a byte
-- through one lookup, `access_at`, or for some access of it. Laws: proofs/EventLaws.antt.
--     Access, Event                 what they hold                 nobody                  what stands where there is no event
--     access_at e n, shape_at e n     the access that covers byte n  is_init e                an init
--     reads_at e n, writes_at e n     e reads, writes byte n         saw e n, wrote e n      the byte seen, written at n
--     reads_some, is_marker           some access reads; a marker    meets a e               a's range overlaps one of e's
-- Assumes nothing.
use Rattle.std.specs.Prelude.{Bool, cond, List, [], ◌∷◌, ℕ, ◌-◌, eqb, get_or}
use Rattle.basis.specs.Test.{◌and◌, any}
use Rattle.format.specs.declared.Shape.{Shape}
use Rattle.format.specs.Shape.{no_shape, reads, writes, marks, covers, overlap}

-- 01: "Data is width bytes for a read (what was seen) and a write; twice the width for kind 3 (seen, then written); none for a marker."
pub record Access : Type 0 where
  pub shape : Shape
  pub seen : List ℕ
  pub written : List ℕ

pub record Event : Type 0 where
  pub agent : ℕ
  pub accesses : List Access

abbrev pub nothing : Access
nothing = record { shape = no_shape; seen = []; written = [] }

abbrev pub nobody : Event
nobody = record { agent = 0; accesses = [] }

-- the first of the accesses that covers byte n, or else one that does nothing
unfoldable pub lookup : List Access → ℕ → Access
lookup [] n = nothing
lookup (a ∷ l) n = cond (covers a.shape n) a (lookup l n)

unfoldable pub access_at : Event → ℕ → Access
access_at e n = lookup e.accesses n

unfoldable pub shape_at : Event → ℕ → Shape
shape_at e n = (access_at e n).shape

unfoldable pub reads_at : Event → ℕ → Bool
reads_at e n = covers (shape_at e n) n and reads (shape_at e n)

unfoldable pub writes_at : Event → ℕ → Bool
writes_at e n = covers (shape_at e n) n and writes (shape_at e n)

unfoldable pub saw : Event → ℕ → ℕ
saw e n = get_or (access_at e n).seen (n - (shape_at e n).start) 0

unfoldable pub wrote : Event → ℕ → ℕ
wrote e n = get_or (access_at e n).written (n - (shape_at e n).start) 0

-- 01: "Init: agent 0", and no other event has agent 0
unfoldable pub is_init : Event → Bool
is_init e = eqb e.agent 0

unfoldable pub reads_some : Event → Bool
reads_some e = any (λ (a : Access). reads a.shape) e.accesses

unfoldable pub is_marker : Event → Bool
is_marker e = any (λ (a : Access). marks a.shape) e.accesses

unfoldable pub meets : Shape → Event → Bool
meets a e = any (λ (b : Access). overlap a b.shape) e.accesses
