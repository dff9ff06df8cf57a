pub mod Sending
pub mod Determined
