pub mod Scrubs
pub mod Brim
pub mod Choices
pub mod Chunks
pub mod Failures
pub mod Fewest
pub mod Kinds
pub mod Listings
pub mod Past
pub mod Stats
pub mod Uses
pub use Rattle.cs_core.specs as cs_core
pub use Rattle.cs_core.specs.law_refinement as law_refinement
