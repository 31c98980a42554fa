-- The laws of specs/Event.antt for an event with one access. Assumes nothing.
--     access_hit, access_miss       the access at a byte that it covers, that it does not
--     reads_at_one, writes_at_one     what the lookup says of it
--     reads_some_one, is_marker_one, meets_one;  reads_at_nobody, writes_at_nobody, is_marker_nobody
use mathlib.Core.Path.{◌≡◌, refl, sym, ap, ◌∙◌}
use mathlib.Core.Bool.{Bool, true, false}
use mathlib.Core.List.{[], ◌∷◌}
use Prim.Native.Nat.{ℕ, ◌-◌}
use lib.Dec.{leb-zero, leb-suc-zero}
use lib.ListN.{get_or}
use Rattle.basis.specs.Test.{◌and◌, any}
use Rattle.basis.proofs.BoolLaws.{or_none}
use Rattle.format.specs.declared.Shape.{Shape}
use Rattle.format.specs.Shape.{no_shape, reads, writes, marks, covers, overlap}
use Rattle.format.specs.Event.{Access, Event, nothing, nobody, lookup, access_at, shape_at, reads_at, writes_at, saw, wrote, reads_some, is_marker, meets}

pub covers_nothing : (n : ℕ) → covers no_shape n ≡ false
unfolding covers ◌and◌
covers_nothing n = rw (leb-zero n, leb-suc-zero n)

-- nobody does nothing
pub reads_at_nobody : (n : ℕ) → reads_at nobody n ≡ false
unfolding reads_at shape_at access_at lookup ◌and◌
reads_at_nobody n = rw (covers_nothing n)

pub writes_at_nobody : (n : ℕ) → writes_at nobody n ≡ false
unfolding writes_at shape_at access_at lookup ◌and◌
writes_at_nobody n = rw (covers_nothing n)

pub is_marker_nobody : is_marker nobody ≡ false
unfolding is_marker any
is_marker_nobody = refl

-- the event with one access
abbrev pub one : ℕ → Access → Event
one agent a = record { agent = agent; accesses = a ∷ [] }

module _ (agent : ℕ) (a : Access) (n : ℕ) where
  pub access_hit : covers a.shape n ≡ true → access_at (one agent a) n ≡ a
  unfolding access_at lookup
  access_hit h = rw h

  pub access_miss : covers a.shape n ≡ false → access_at (one agent a) n ≡ nothing
  unfolding access_at lookup
  access_miss h = rw h

  -- a test of the shape at a byte that holds of nothing that does not cover the byte
  asked : (p : Shape → Bool) → (covers (shape_at (one agent a) n) n and p (shape_at (one agent a) n)) ≡ (covers a.shape n and p a.shape)
  unfolding shape_at ◌and◌
  asked p = go (covers a.shape n) refl
    where
      go : (b : Bool) → covers a.shape n ≡ b → (covers (shape_at (one agent a) n) n and p (shape_at (one agent a) n)) ≡ (covers a.shape n and p a.shape)
      go true h = ap (λ (b : Access). covers b.shape n and p b.shape) (access_hit h)
      go false h =
          ap (λ (b : Access). covers b.shape n and p b.shape) (access_miss h) ∙ ap (λ (b : Bool). b and p no_shape) (covers_nothing n)
          ∙ sym (ap (λ (b : Bool). b and p a.shape) h)

  pub reads_at_one : reads_at (one agent a) n ≡ (covers a.shape n and reads a.shape)
  unfolding reads_at
  reads_at_one = asked reads

  pub writes_at_one : writes_at (one agent a) n ≡ (covers a.shape n and writes a.shape)
  unfolding writes_at
  writes_at_one = asked writes

  pub saw_hit : covers a.shape n ≡ true → saw (one agent a) n ≡ get_or a.seen (n - a.shape.start) 0
  unfolding saw shape_at
  saw_hit h = ap (λ (b : Access). get_or b.seen (n - b.shape.start) 0) (access_hit h)

  pub saw_miss : covers a.shape n ≡ false → saw (one agent a) n ≡ 0
  unfolding saw shape_at
  saw_miss h = ap (λ (b : Access). get_or b.seen (n - b.shape.start) 0) (access_miss h)

  pub wrote_hit : covers a.shape n ≡ true → wrote (one agent a) n ≡ get_or a.written (n - a.shape.start) 0
  unfolding wrote shape_at
  wrote_hit h = ap (λ (b : Access). get_or b.written (n - b.shape.start) 0) (access_hit h)

  pub wrote_miss : covers a.shape n ≡ false → wrote (one agent a) n ≡ 0
  unfolding wrote shape_at
  wrote_miss h = ap (λ (b : Access). get_or b.written (n - b.shape.start) 0) (access_miss h)

module _ (agent : ℕ) (a : Access) where
  pub reads_some_one : reads_some (one agent a) ≡ reads a.shape
  unfolding reads_some any
  reads_some_one = or_none (reads a.shape)

  pub is_marker_one : is_marker (one agent a) ≡ marks a.shape
  unfolding is_marker any
  is_marker_one = or_none (marks a.shape)

  pub meets_one : (b : Shape) → meets b (one agent a) ≡ overlap b a.shape
  unfolding meets any
  meets_one b = or_none (overlap b a.shape)
