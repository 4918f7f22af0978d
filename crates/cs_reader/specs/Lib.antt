pub mod Counts
pub mod Heads
pub mod ImageReads
pub mod Loads
pub mod Openings
pub use Rattle.cs_chunk.specs as cs_chunk
pub use Rattle.cs_extent.specs as cs_extent
pub use Rattle.cs_index.specs as cs_index
