pub mod Faults
pub mod Spelling
pub mod Requests
pub mod Reading
pub mod Replies
