pub mod Chunks
pub mod Cuts
pub mod Lengths
pub mod Newest
pub mod Puts
pub mod Reads
pub mod Stays
