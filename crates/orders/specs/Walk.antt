-- What the steps of a search promise: a walk through the sets. Sets are numbers here; a set is looked up in the table by its members
-- from k up, the events that are no inits. Of the contracts of this crate and of `first_order` none cites this file.
-- Laws: proofs/TablesLaws.antt, NextLaws.antt, StandLaws.antt, SeekLaws.antt, AnswerLaws.antt. Assumes nothing.
--     Gathered m bars writers      writers[v] is the set of the w below m that have a bar (r, w, v), for each v below m
--     Tried P k table s j          of the events below j that can be placed after those of s, each leads to a marked set
--     NextIs P k table s r         r is the lowest event that can be placed after those of s and leads to a set that is not marked
--     NextReady P seen s from r    r is the lowest event from `from` on that can be placed after those of s and is not seen, or the number of
--                                  events if there is none; an event is seen where it leads to a marked set, or none is
--     Starting P k table path      what a walk starts from: room for the events, the sets and the path, and no set marked
--     Walked P k ..                the end of a walk: in the path, the first list of the others that can be placed, or that there is none
--     Descended P k ..             the end of a walk without marks: where all are placed, the path has the first list too
--     Clean k m scratch            a scratch with room for the sets, and no set marked
--     Searched P k ..              a walk with a clean scratch, cleaned again
--     Sought ..                    the same for all inputs: what does not fit is answered false, with nothing changed
use Rattle.std.specs.Prelude.{ℕ, ◌-◌, ◌^◌, ◌<◌, ◌≤◌, ◌≡◌, Bool, true, false, List, length, get_or, take, drop}
use Rattle.sets.specs.Mask.{slots, Has}
use Rattle.marks.specs.Table.{is_marked, bytes_for, cleared}
use Rattle.gather.specs.Writers.{Writers}
use Rattle.placing.specs.Placing.{is_seen}
use Rattle.orders.specs.Problem.{Problem}
use Rattle.orders.specs.First.{FirstOf}
use Rattle.orders.specs.Step.{Below, Ready, Runs, Dead}
use Rattle.orders.specs.Tables.{tabled}
use Rattle.orders.specs.Answer.{Fits}

pub record Gathered (m : ℕ) (bars writers : List ℕ) : Type 0 where
  pub each : (v : ℕ) → v < m → Writers m bars v (get_or writers v 0)

abbrev pub Tried : Problem → ℕ → List ℕ → ℕ → ℕ → Type 0
Tried P k table s j = (d : ℕ) → d < j → Ready P (Has s) d → is_seen k table s d ≡ true

pub record NextIs (P : Problem) (k : ℕ) (table : List ℕ) (s r : ℕ) : Type 0 where
  pub bound : r ≤ P.events
  pub tried : Tried P k table s r
  pub ready : r < P.events → Ready P (Has s) r
  pub unseen : r < P.events → is_seen k table s r ≡ false

pub record NextReady (P : Problem) (seen : ℕ → Bool) (s from r : ℕ) : Type 0 where
  pub bound : r ≤ P.events
  pub place : r < P.events → from ≤ r
  pub ready : r < P.events → Ready P (Has s) r
  pub unseen : r < P.events → seen r ≡ false
  pub tried : (d : ℕ) → from ≤ d → d < r → Ready P (Has s) d → seen d ≡ true

pub record Starting (P : Problem) (k : ℕ) (table path : List ℕ) : Type 0 where
  pub inits : k ≤ P.events
  pub events : P.events ≤ slots
  pub room : bytes_for (P.events - k) ≤ length table
  pub cells : slots ≤ length path
  pub blank : (x : ℕ) → x < 2 ^ (P.events - k) → is_marked table x ≡ false

pub record Walked (P : Problem) (k : ℕ) (table : List ℕ) (r : Bool) (table' path' : List ℕ) : Type 0 where
  pub found : r ≡ true → FirstOf (Runs P (Below k)) (take (P.events - k) path')
  pub none : r ≡ false → Dead P (Below k)
  pub size : length table' ≡ length table
  pub rest : drop (bytes_for (P.events - k)) table' ≡ drop (bytes_for (P.events - k)) table

pub record Descended (P : Problem) (k : ℕ) (r : Bool) (path' : List ℕ) : Type 0 where
  pub found : r ≡ true → FirstOf (Runs P (Below k)) (take (P.events - k) path')

pub record Clean (k m : ℕ) (scratch : List ℕ) : Type 0 where
  pub inits : k ≤ m
  pub events : m ≤ slots
  pub room : bytes_for (m - k) ≤ length scratch
  pub blank : cleared (bytes_for (m - k)) scratch ≡ scratch

pub record Searched (P : Problem) (k : ℕ) (scratch : List ℕ) (r : Bool) (scratch' path' : List ℕ) : Type 0 where
  pub clean : scratch' ≡ cleared (bytes_for (P.events - k)) scratch
  pub found : r ≡ true → FirstOf (Runs P (Below k)) (take (P.events - k) path')
  pub none : r ≡ false → Dead P (Below k)

pub record Sought (k m : ℕ) (before bars scratch path : List ℕ) (r : Bool) (scratch' path' : List ℕ) : Type 0 where
  pub fit : Fits k m (length scratch) → Searched (tabled m before bars) k scratch r scratch' path'
  pub unfit : (Fits k m (length scratch) → ⊥) → (r ≡ false) × (scratch' ≡ scratch) × (path' ≡ path)
  pub size : length path' ≡ length path
