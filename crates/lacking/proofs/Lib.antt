pub mod LackingLaws
pub mod BytesLaws
