pub mod Numbers
pub mod Finite
pub mod Unit
pub mod Words
pub mod Moved
pub mod Counts
