pub mod Alone
pub mod Checked
pub mod Reports
pub mod Run
pub mod Steps
