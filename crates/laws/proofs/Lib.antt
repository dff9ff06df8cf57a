pub mod Tests
pub mod Checks
pub mod Bytes
pub mod Put
pub mod Mixing
pub mod Counts
