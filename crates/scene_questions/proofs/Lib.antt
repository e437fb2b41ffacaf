pub mod StepLists
pub mod StepTexts
pub mod AnswerTexts
