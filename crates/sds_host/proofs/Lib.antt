pub mod Buffers
pub mod Values
pub mod Promises
pub mod Determined
