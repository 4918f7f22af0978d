pub mod Images
pub mod Bridge
pub mod Copying
pub mod Crashes
pub mod Devices
pub mod Frontiers
pub mod Machines
pub mod Openings
pub mod Parts
pub mod Refusals
pub mod Rounds
pub mod Stores
pub mod StoresRead
pub use Rattle.cs_reclaim.specs as cs_reclaim
