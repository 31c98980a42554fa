pub mod AgentsLaws
