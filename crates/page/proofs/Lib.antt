pub mod Kept
pub mod Lengths
mod Packed
mod Parts
