pub mod KindLaws
pub mod LineLaws
pub mod NumberLaws
pub mod Places
pub mod TargetLaws
pub mod UsualLaws
pub mod WordLaws
