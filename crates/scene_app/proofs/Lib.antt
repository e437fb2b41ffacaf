pub mod Ends
pub mod PlayLaws
pub mod ReportLaws
