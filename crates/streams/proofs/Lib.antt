pub mod Left
pub mod EntryCounted
pub mod Counted
pub mod Draw
