pub mod Shape
pub mod Scene
pub mod Made
pub mod Answer
pub mod Appended
pub mod Laid
pub mod Drawn
