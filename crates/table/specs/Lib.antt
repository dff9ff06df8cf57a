pub mod Code
pub mod Descriptor
pub mod Table
