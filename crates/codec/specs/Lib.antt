pub mod Names
pub mod Fields
pub mod Reading
pub mod Writing
pub mod Code
