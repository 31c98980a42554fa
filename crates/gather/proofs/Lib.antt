pub mod WritersLaws
