-- The limits of a sheet (01, "The sheet"), named once.
--     max_edition    the last edition               max_bytes      the longest sheet
--     max_agents     the most agents                 max_memory     the most bytes of memory
--     max_inits      the most inits                  max_others     the most other events, markers included
--     max_events     the most events of all          max_pairs      the most pairs
-- Assumes nothing.
use Rattle.std.specs.Prelude.{ℕ, ◌+◌}

-- 01: "edition (1)"; 02 §4: "Edition 2 adds a sixth byte to each event .. Edition 1 stays"
abbrev pub max_edition : ℕ
max_edition = 2

-- 01: "At most 4,096 bytes."
abbrev pub max_bytes : ℕ
max_bytes = 4096

-- 01: "agents (1 to 8), memory size in bytes (1 to 64)"
abbrev pub max_agents : ℕ
max_agents = 8

abbrev pub max_memory : ℕ
max_memory = 64

-- 01: "width 1 to 64. .. At most 4." (inits)
abbrev pub max_inits : ℕ
max_inits = 4

-- 01: "at most 16 together, markers included"; 02 §6: "Raise the count of events that are not inits from 16 to 18"
abbrev pub max_others : ℕ
max_others = 18

abbrev pub max_events : ℕ
max_events = max_inits + max_others

-- 01: "pairs rise strictly; at most 32"
abbrev pub max_pairs : ℕ
max_pairs = 32
