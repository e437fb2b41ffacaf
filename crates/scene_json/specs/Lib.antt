pub mod Examples
pub mod Keys
pub mod Lists
pub mod NodeData
pub mod Texts
pub mod View
