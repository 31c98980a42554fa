-- A place for each number of an agent, 1 where it has an event.
--     agent_numbers                  how many numbers an agent can have: those of a byte
--     Present events seen      1 stands just at the agents that have one of the events
-- Assumes nothing.
use Rattle.std.specs.Prelude.{◌≡◌, List, ℕ, ◌<◌, eqb, length, get_or}
use Rattle.format.specs.Event.{Event}
use Rattle.parse.specs.Parse.{appears}

abbrev pub agent_numbers : ℕ
agent_numbers = 256

pub record Present (events : List Event) (seen : List ℕ) : Type 0 where
  pub size : length seen ≡ agent_numbers
  pub tells : (a : ℕ) → a < agent_numbers → eqb (get_or seen a 0) 1 ≡ appears events a
