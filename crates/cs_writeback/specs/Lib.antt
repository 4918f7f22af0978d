pub mod Histories
pub mod Rounds
pub mod Runs
pub mod Sweeps
pub mod Syncs
pub use Rattle.cs_core.specs.cs_chunk as cs_chunk
pub use Rattle.cs_core.specs as cs_core
pub use Rattle.cs_core.specs.cs_extent as cs_extent
pub use Rattle.cs_core.specs.cs_reader as cs_reader
