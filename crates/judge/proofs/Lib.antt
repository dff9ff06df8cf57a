pub mod Groups
pub mod Determined
