pub mod Patches
pub mod Turning
pub mod Runs
pub mod Empty
pub mod Kept
pub mod Sounds
