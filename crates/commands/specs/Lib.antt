pub mod Entries
pub mod Stream
pub mod Verb
pub mod Subject
