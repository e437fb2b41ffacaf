mod BadTexts
mod KeptLaws
pub mod KeptLead
pub mod Lines
pub mod Requests
mod RunLaws
mod SaidLaws
