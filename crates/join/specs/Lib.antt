pub mod Work
pub mod History
pub mod Code
