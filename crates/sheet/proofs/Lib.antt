pub mod CompleteLaws
pub mod AgreementLaws
