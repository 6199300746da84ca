pub mod Digits
pub mod Cuts
pub mod Pairs
