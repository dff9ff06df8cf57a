pub mod Copies
pub mod Datas
pub mod Determined
