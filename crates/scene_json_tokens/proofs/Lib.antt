pub mod Grammar
pub mod ListsTaken
pub mod FewNumbers
pub mod CellsTaken
