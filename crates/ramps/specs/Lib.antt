pub mod Keys
pub mod Rows
pub mod Fault
pub mod View
pub mod Held
pub mod Sheet
pub mod Cache
pub mod Laws
