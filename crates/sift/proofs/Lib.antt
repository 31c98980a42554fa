pub mod LeftLaws
pub mod NotedLaws
pub mod AlikesLaws
pub mod NearLaws
pub mod CleanLaws
pub mod CoverLaws
