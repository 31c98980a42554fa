pub mod TellsLaws
pub mod MaskLaws
pub mod RestLaws
pub mod CountLaws
