pub mod AnswerText
pub mod Kept
pub mod Shell
pub mod ShellLine
pub mod Waits
