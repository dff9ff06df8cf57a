pub mod Descriptors
pub mod Served
pub mod Tables
pub mod Records
pub mod Determined
