pub mod Checks
pub mod Step
pub mod Tally
pub mod History
pub mod Belongs
pub mod Mixes
pub mod Code
