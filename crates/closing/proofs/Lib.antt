pub mod SweepLaws
pub mod ClosureLaws
pub mod TriplesLaws
pub mod ExistsLaws
