pub mod JudgedLineLaws
pub mod AgreementLaws
pub mod PrintedLaws
pub mod Demands
