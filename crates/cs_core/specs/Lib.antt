pub mod Answered
pub mod Calls
pub mod Checkpoints
pub mod Disks
pub mod Frontiers
pub mod Histories
pub mod Known
pub mod Lengths
pub mod Lookups
pub mod Meanings
pub mod Openings
pub mod Prefixes
pub mod Puts
pub mod Reads
pub mod Replays
pub mod Replies
pub mod Rounds
pub mod Served
pub mod Started
pub mod States
pub mod Steps
pub mod Stored
pub mod Sweepable
pub mod Unstaged
pub mod Views
pub mod Writebacks
pub use Rattle.law_refinement.specs as law_refinement
pub use Rattle.cs_reader.specs as cs_reader
pub use Rattle.cs_chunk.specs as cs_chunk
pub use Rattle.cs_extent.specs as cs_extent
pub use Rattle.cs_index.specs as cs_index
pub use Rattle.law_refinement.specs.cs_reclaim as cs_reclaim
