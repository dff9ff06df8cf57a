pub mod Places
pub mod Keys
pub mod Records
pub mod Joins
pub mod Parts
pub mod Two
pub mod Determined
