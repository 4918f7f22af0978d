pub mod Appended
pub mod Changes
pub mod Frames
pub mod Kinds
pub mod Notes
pub mod Places
pub mod Planned
pub mod Purposes
pub mod Sections
pub mod State
pub mod Worn
pub use Rattle.cs_deps.specs as cs_deps
