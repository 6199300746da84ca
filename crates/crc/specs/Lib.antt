pub mod Crc
pub mod Sums
