pub mod KeysLaws
pub mod RangesLaws
pub mod SingleLaws
