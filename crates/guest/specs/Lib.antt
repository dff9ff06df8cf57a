pub mod Checks
pub mod Errors
pub mod Step
pub mod Belongs
pub mod History
pub mod Frames
