pub mod Storing
pub mod Determined
