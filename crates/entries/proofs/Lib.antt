pub mod EntriesLaws
