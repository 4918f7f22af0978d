pub mod ByRule
pub mod Copied
pub mod Keeps
pub mod Moves
pub mod Retired
pub mod Rooted
pub mod Sweeps
pub use Rattle.cs_chunk.specs as cs_chunk
