pub mod Filling
pub mod Promises
