pub mod Numerals
pub mod Words
pub mod Line
pub mod Names
pub mod Name
pub mod Floats
pub mod Parts
