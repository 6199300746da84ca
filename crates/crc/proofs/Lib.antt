pub mod Shifts
pub mod Eight
pub mod Parts
