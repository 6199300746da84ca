pub mod Lines
pub mod Runner
