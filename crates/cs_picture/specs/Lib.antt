pub mod Picture
pub mod Spelling
