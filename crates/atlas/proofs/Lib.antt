pub mod Shuffles
pub mod Kept
pub mod Seeks
