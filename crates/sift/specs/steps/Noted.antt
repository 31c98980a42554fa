-- What first accesses are, event by event: what a private step promises. Laws: proofs/NotedLaws.antt. Assumes nothing.
--     first_key t e              the key of event e's first access (crate alike)
--     NotedIn t n l l' ..       l' is l with the keys of the events below n; the sets have those of them that are far, that write sc and that write, by
--                               their first access; seconds is 0 exactly where none has a second
use Rattle.std.specs.Prelude.{◌≡◌, List, ℕ, ◌*◌, ◌<◌}
use Rattle.format.specs.Shape.{writes}
use Rattle.cells.specs.Walk.{picked}
use Rattle.cells.specs.Cells.{placing}
use Rattle.tables.specs.Tables.{shape_in}
use Rattle.own.specs.Lone.{Lone}
use Rattle.alike.specs.Ranges.{sc_writes}
use Rattle.alike.specs.steps.Keys.{key_of}
use Rattle.sift.specs.Clean.{wide_of}

abbrev pub first_key : List ℕ → ℕ → ℕ
first_key t e = key_of (shape_in t (2 * e))

pub record NotedIn (t : List ℕ) (n : ℕ) (l l' : List ℕ) (far sc writers seconds : ℕ) : Type 0 where
  pub keys : l' ≡ placing (first_key t) n l
  pub narrow : (e : ℕ) → e < n → (shape_in t (2 * e)).width < 256
  pub fars : far ≡ picked n (λ (v : ℕ). wide_of (shape_in t (2 * v)))
  pub scs : sc ≡ picked n (λ (v : ℕ). sc_writes t (2 * v))
  pub all : writers ≡ picked n (λ (v : ℕ). writes (shape_in t (2 * v)))
  pub lone : seconds ≡ 0 → Lone t n
  pub none : Lone t n → seconds ≡ 0
