pub mod ExampleWords
pub mod Examples
pub mod Frame
pub mod Laws
pub mod Machine
pub mod Queue
