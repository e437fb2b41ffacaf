pub mod Apart
pub mod AskedLaws
