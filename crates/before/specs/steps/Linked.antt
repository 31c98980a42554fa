-- Happens-before as it grows, a step at a time. No public contract cites this file. Laws: proofs/LinkedLaws.antt. Assumes nothing.
--     Linked n steps succ cols     the first n rows of succ are the closure of the steps so far, and cols has their columns
--     Grew m x l l'                l' is l, of which the mask at each member of m has gained x
--     Beyond n succ x d            d has the members of x, and what those below n lead to
--     Merged l m l'                l' is l, with what m has
--     Joined a d ..                a and what leads to it have gained d, by rows and by columns
--     init_at, inits_in t n l        the masks l, of which an init's, each init's below n, has gained what it meets
--     Linking n F ..               whatever the steps were, they are those of F now
use Rattle.std.specs.Prelude.{◌≡◌, cond, List, ◌⊎◌, ◌↔◌, ℕ, ◌<◌, eqb, length, get_or, set}
use Rattle.std.specs.Int.Bits.{bit_or}
use Rattle.sets.specs.Mask.{slots, mem, Has, insert}
use Rattle.cells.specs.Walk.{up_to, picked}
use Rattle.tables.specs.Tables.{agent_in}
use Rattle.own.specs.Own.{met_in}
use Rattle.closing.specs.Closure.{Closed}

pub record Linked (n : ℕ) (steps succ cols : List ℕ) : Type 0 where
  pub size : length succ ≡ slots
  pub width : length cols ≡ slots
  pub closed : Closed n steps succ
  pub turned : (d : ℕ) → d < slots → (e : ℕ) → Has (get_or cols d 0) e ↔ ((e < n) × Has (get_or succ e 0) d)

pub record Grew (m x : ℕ) (l l' : List ℕ) : Type 0 where
  pub size : length l' ≡ length l
  pub each : (e : ℕ) → e < slots → get_or l' e 0 ≡ cond (mem m e) (bit_or (get_or l e 0) x) (get_or l e 0)

-- m is one of x, below n, and leads to e
abbrev pub Through : ℕ → List ℕ → ℕ → ℕ → Type 0
Through n succ x e = (m : ℕ) × (m < n) × Has x m × Has (get_or succ m 0) e

pub record Beyond (n : ℕ) (succ : List ℕ) (x d : ℕ) : Type 0 where
  pub has : (e : ℕ) → Has d e ↔ (Has x e ⊎ Through n succ x e)

pub record Merged (l m l' : List ℕ) : Type 0 where
  pub size : length l' ≡ length l
  pub each : (e : ℕ) → e < slots → get_or l' e 0 ≡ bit_or (get_or l e 0) (get_or m e 0)

pub record Joined (a d : ℕ) (succ cols succ' cols' : List ℕ) : Type 0 where
  pub rows : Grew (insert (get_or cols a 0) a) d succ succ'
  pub columns : Grew d (insert (get_or cols a 0) a) cols cols'

unfoldable pub init_at : List ℕ → ℕ → ℕ → List ℕ → List ℕ
init_at t n e l = cond (eqb (agent_in t e) 0) (set l e (bit_or (get_or l e 0) (picked n (met_in t e)))) l

unfoldable pub inits_in : List ℕ → ℕ → ℕ → List ℕ → List ℕ
inits_in t n m l = up_to (init_at t n) m l

pub record Linking (n : ℕ) (F : List ℕ → List ℕ) (succ cols succ' cols' : List ℕ) : Type 0 where
  pub size : length succ' ≡ slots
  pub width : length cols' ≡ slots
  pub adds : (steps : List ℕ) → Linked n steps succ cols → Linked n (F steps) succ' cols'
