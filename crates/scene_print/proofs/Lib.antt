pub mod JsonObjects
pub mod JsonAsked
pub mod JsonWritten
pub mod Pages
pub mod ResourceLaws
pub mod ShowLaws
