pub mod Text
pub mod Lines
pub mod Frame
pub mod Importing
pub mod Grammar
pub mod Code
pub mod Exporting
pub mod Refusals
