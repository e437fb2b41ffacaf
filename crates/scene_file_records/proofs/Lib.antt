pub mod Parted
pub mod SameLists
pub mod Objects
pub mod RecordsBack
pub mod RecordsExact
