pub mod Tags
pub mod Color
pub mod Ramp
pub mod Laws
